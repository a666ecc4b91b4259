use Rattle.std.proofs.Common.{◌∙◌, List, ap, rules, subst}
use Rattle.ivy_wire.specs.stated.Data.{Parcel}
use Rattle.ivy_coherence.proofs.keeping.OpenedFetches.{ended_fits, ended_sound, ended_then, ended_posts}
use Rattle.ivy_coherence.proofs.coherence.Coherence.fetch_ended.Goals as goal

pub serve_put_off-requires-clause-fits : goal.serve_put_off-requires-clause-fits
serve_put_off-requires-clause-fits g c =
    ended_fits g.met.M.Manager.laws _ _ c.self.view_is c.self.invariant.0 c.args.from c.args.page
    c.page.result.now c.args.waiting.now _ _ _ _ c.requires.page c.requires.waits
    c.page.ensures.bytes c.owned.ensures c.put_offs.ensures.list c.requires.post.config
    c.requires.post.node

pub invariant_of-self-2 : goal.invariant_of-self-2
invariant_of-self-2 g c = (
  ended_sound g.met.M.Manager.laws _ _ c.self.view_is c.self.invariant.0 c.args.from c.args.page
      c.page.result.now c.args.waiting.now c.owned.result _ c.put_offs.result.now _ _ _ _
      c.requires.elsewhere c.requires.page c.requires.waits c.page.ensures.bytes c.owned.ensures
      c.put_offs.ensures.list c.in_ok-after.ensures.idle c.set_entry.ensures
      c.in_ok-after.ensures.manager c.in_ok-after.ensures.breaches c.leave_out.ensures,
  c.self.invariant.1,
  c.self.invariant.2,
)

pub returns : goal.returns
returns g c =
    let posts =
    ended_posts g.met.M.Manager.laws _ _ c.self.view_is c.self.invariant.0 c.args.from c.args.page
    c.page.result.now c.args.waiting.now c.owned.result c.put_offs.result.now c.page.ensures.bytes
    c.owned.ensures c.put_offs.ensures.list in
    record {
      ok = ended_then g.met.M.Manager.laws _ _ c.self.view_is c.self.invariant.0 c.args.from
          c.args.page c.page.result.now c.args.waiting.now c.owned.result _ c.put_offs.result.now _ _
          _ _ c.page.ensures.bytes c.owned.ensures c.put_offs.ensures.list
          c.in_ok-after.ensures.idle c.set_entry.ensures c.in_ok-after.ensures.manager
          c.in_ok-after.ensures.breaches c.leave_out.ensures;
      posted = c.in_ok-after.ensures.posted ∙ ap (g.P.Post.ops.after c.args.post.now) posts;
      took = subst (λ (ps : List Parcel). g.P.Post.ops.takes c.args.post.now ps) posts
          c.in_ok-after.ensures.took;
      err = search rules;
      fault = search rules;
      want = search rules;
    }
