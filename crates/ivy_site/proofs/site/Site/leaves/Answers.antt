use Rattle.std.proofs.Common.{rules, ◌≡◌, ℕ, List, Option, None, Some, MatchOption, sym, ap, ◌∙◌}
use Rattle.std.proofs.lemmas.Option.{none-some, same_Some}
use Rattle.ivy_model.specs.declared.Config.{Config}
use Rattle.ivy_wire.specs.stated.Data.{Frame, Message}
use Rattle.ivy_wire.specs.stated.Spelling.{Spells}
use Rattle.ivy_wire.specs.Lent.{owned_frame, owned_message}
use Rattle.ivy_link.specs.stated.Accepted.{offered}
use Rattle.ivy_link.specs.declared.Verdict.TheVariants as verdict
use Rattle.ivy_coherence.specs.declared.leaving.Leaving.{Leaving}
use Rattle.ivy_coherence.specs.Leavings as leavings
use Rattle.ivy_site.specs.Leavings.{Leaves}
use Rattle.ivy_site.specs.SiteView.{SiteView}
use Rattle.ivy_site.proofs.site.Site.leaves.Goals as goal

-- what is left by the message of the frame that the string spells is what the string leaves
left_by : (s : SiteView) (bytes : List ℕ) (c : Config) (f : Frame) (m : Message)
    (result : Option Leaving) → c ≡ s.config → Spells c f bytes
    → ((a : Frame) → Spells c a bytes → f ≡ a) → offered s.node.link f ≡ verdict.Next
    → f.body ≡ Some m
    → result ≡ leavings.leaves s.node.core.memory.coherence f.source m
    → MatchOption result ((l : Leaving) → Leaves s bytes l → ⊥) (Leaves s bytes)
left_by s bytes c f m None config spelled only next body is =
    λ l h.
    let same = only h.frame (rw config h.spelled) in
    let message = same_Some m h.message (sym body ∙ (ap (λ (x : Frame). x.body) same ∙ h.body)) in
    none-some l
    (is ∙ (ap (λ (x : Frame). leavings.leaves s.node.core.memory.coherence x.source m) same
    ∙ (ap (leavings.leaves s.node.core.memory.coherence h.frame.source) message ∙ h.left)))
left_by s bytes c f m (Some l) config spelled only next body is = record {
  frame = f;
  spelled = rw (← config) spelled;
  next = next;
  message = m;
  body = body;
  left = sym is;
}

pub returns : goal.returns
returns g c =
    let frame = owned_frame c.in-Ok.frame in
    let next : offered c.args.self.now.node.link frame ≡ verdict.Next = search rules in
    let body : frame.body ≡ Some (owned_message c.in-Some.message) = search rules in
    left_by c.args.self.now c.args.bytes.now c.config-config.result frame
    (owned_message c.in-Some.message) c.leaves.result
    (c.config-config.ensures.is ∙ ap (λ (v : SiteView). v.config) c.self.view_is)
    c.in-Ok.ensures.found c.in-Ok.ensures.only next body
    (c.leaves.ensures
    ∙ ap (λ (v : SiteView). leavings.leaves v.node.core.memory.coherence frame.source
    (owned_message c.in-Some.message)) c.self.view_is)
