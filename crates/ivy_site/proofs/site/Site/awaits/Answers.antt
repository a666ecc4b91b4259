use Rattle.std.proofs.Common.{rules, ◌≡◌, ◌<◌, ◌↔◌, ℕ, List, ap, ◌∙◌}
use Rattle.ivy_model.specs.declared.Config.{Config}
use Rattle.ivy_wire.specs.stated.Data.{Frame}
use Rattle.ivy_wire.specs.stated.Spelling.{Spells}
use Rattle.ivy_wire.specs.Lent.{owned_frame}
use Rattle.ivy_link.specs.stated.Linked.{peer_at}
use Rattle.ivy_site.specs.SiteView.{SiteView}
use Rattle.ivy_site.specs.Sites.{Awaits}
use Rattle.ivy_site.proofs.site.Site.awaits.Goals as goal

-- a site awaits the string that spells this frame exactly where its number is above those delivered
awaits_exactly : (s : SiteView) (bytes : List ℕ) (c : Config) (f : Frame) (delivered : ℕ)
    → c ≡ s.config → Spells c f bytes → ((a : Frame) → Spells c a bytes → f ≡ a) → f.dest ≡ s.me
    → delivered ≡ (peer_at s.node.link f.source).delivered
    → (delivered < f.number) ↔ Awaits s bytes
awaits_exactly s bytes c f delivered config spelled only dest count = (
  λ lt. record {
    frame = f;
    spelled = rw (← config) spelled;
    dest = dest;
    later = rw (← count) lt;
  },
  λ a. (let same = only a.frame (rw config a.spelled) in rw count (rw same a.later)),
)

pub returns-then-frame-me : goal.returns-then-frame-me
returns-then-frame-me g c =
    let exact =
    awaits_exactly c.args.self.now c.args.bytes.now c.config-config.result
    (owned_frame c.in-Ok.frame) c.delivered_from.result
    (c.config-config.ensures.is ∙ ap (λ (s : SiteView). s.config) c.self.view_is)
    c.in-Ok.ensures.found c.in-Ok.ensures.only
    (c.if-frame-me.true ∙ c.me.ensures ∙ ap (λ (s : SiteView). s.me) c.self.view_is)
    (c.delivered_from.ensures
    ∙ ap (λ (s : SiteView). (peer_at s.node.link c.in-Ok.frame.source).delivered) c.self.view_is) in (
      λ t. exact.0 (search (rules, t)),
      λ a. (let lt = exact.1 a in search (rules, lt)),
    )
