use Rattle.std.proofs.Common.{List, rules, sym, ap, ◌∙◌, subst}
use Rattle.ivy_wire.specs.stated.Data.{Parcel}
use Rattle.ivy_pagetable.specs.Lent.{lent_entry}
use Rattle.ivy_coherence.proofs.keeping.Opened.{asked_fits, asked_sound, asked_then, asked_posts}
use Rattle.ivy_coherence.proofs.coherence.Coherence.asked.Goals as goal

pub serve_put_off-requires-clause-fits : goal.serve_put_off-requires-clause-fits
serve_put_off-requires-clause-fits g c =
    asked_fits g.met.M.Manager.laws _ _ c.self.view_is c.self.invariant.0 c.args.page c.args.message
    c.in-Idle.idle.now _ _ _ _ c.requires.page (sym c.entry.ensures ∙ ap lent_entry c.in-Idle.is)
    c.requires.message c.page.ensures.bytes c.copied-idle.ensures c.requires.post.config
    c.requires.post.node

pub invariant_of-self-in-Idle : goal.invariant_of-self-in-Idle
invariant_of-self-in-Idle g c = (
  asked_sound g.met.M.Manager.laws _ _ c.self.view_is c.self.invariant.0 c.args.page c.args.message
      c.in-Idle.idle.now c.copied-idle.result _ c.page.result.now _ _ _ c.requires.page
      (sym c.entry.ensures ∙ ap lent_entry c.in-Idle.is) c.requires.message c.page.ensures.bytes
      c.copied-idle.ensures
      c.in_ok-after-in-Idle.ensures.idle c.set_entry.ensures c.in_ok-after-in-Idle.ensures.manager
      c.in_ok-after-in-Idle.ensures.breaches,
  c.self.invariant.1,
  c.self.invariant.2,
)

pub returns-in_ok-after-in-Idle : goal.returns-in_ok-after-in-Idle
returns-in_ok-after-in-Idle g c =
    let at = sym c.entry.ensures ∙ ap lent_entry c.in-Idle.is in
    let posts =
    asked_posts g.met.M.Manager.laws _ _ c.self.view_is c.self.invariant.0 c.args.page
    c.args.message c.in-Idle.idle.now c.copied-idle.result c.page.result.now at
    c.page.ensures.bytes c.copied-idle.ensures in
    record {
      ok = asked_then g.met.M.Manager.laws _ _ c.self.view_is c.self.invariant.0 c.args.page
          c.args.message c.in-Idle.idle.now c.copied-idle.result _ c.page.result.now _ _ _ at
          c.page.ensures.bytes c.copied-idle.ensures
          c.in_ok-after-in-Idle.ensures.idle c.set_entry.ensures
          c.in_ok-after-in-Idle.ensures.manager c.in_ok-after-in-Idle.ensures.breaches;
      posted = c.in_ok-after-in-Idle.ensures.posted
          ∙ ap (g.P.Post.ops.after c.args.post.now) posts;
      took = subst (λ (ps : List Parcel). g.P.Post.ops.takes c.args.post.now ps) posts
          c.in_ok-after-in-Idle.ensures.took;
      err = search rules;
      fault = search rules;
      want = search rules;
    }
