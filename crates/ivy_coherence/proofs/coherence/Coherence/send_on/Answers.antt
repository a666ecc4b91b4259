use Rattle.std.proofs.Common.{List, rules, ap, ◌∙◌, subst}
use Rattle.ivy_wire.specs.stated.Data.{Parcel}
use Rattle.ivy_pagetable.specs.declared.Request.TheVariants as request
use Rattle.ivy_coherence.proofs.keeping.Opened.{room_waiting, sending_fits, sending_sound, sending_then, sending_posts}
use Rattle.ivy_coherence.proofs.coherence.Coherence.send_on.Goals as goal

pub serve_put_off-requires-clause-fits : goal.serve_put_off-requires-clause-fits
serve_put_off-requires-clause-fits g c =
    sending_fits g.met.M.Manager.laws _ _ c.self.view_is c.self.invariant.0 c.args.page
    c.args.waiting c.args.message _ _ _ _ c.requires.page c.requires.waits c.requires.message
    c.plain-idle.ensures c.page.ensures.bytes c.requires.post.config c.requires.post.node

pub set_entry-requires-clause-room : goal.set_entry-requires-clause-room
set_entry-requires-clause-room g c = λ locked.
    room_waiting _ _ c.self.view_is c.self.invariant.0 c.args.page request.Read c.args.waiting
    c.requires.waits

pub invariant_of-self-2 : goal.invariant_of-self-2
invariant_of-self-2 g c = (
  sending_sound g.met.M.Manager.laws _ _ c.self.view_is c.self.invariant.0 c.args.page
      c.args.waiting c.args.message _ _ _ _ _ c.requires.page c.requires.waits c.requires.message
      c.plain-idle.ensures c.page.ensures.bytes
      (rw c.send_on.ensures at c.set_entry.ensures) c.in_ok-serve_put_off.ensures.manager
      c.in_ok-serve_put_off.ensures.breaches,
  c.self.invariant.1,
  c.self.invariant.2,
)

pub returns : goal.returns
returns g c =
    let posts =
    sending_posts g.met.M.Manager.laws _ _ c.self.view_is c.self.invariant.0 c.args.page
    c.args.waiting c.args.message c.plain-idle.result c.page.result.now c.plain-idle.ensures
    c.page.ensures.bytes in
    record {
      ok = sending_then g.met.M.Manager.laws _ _ c.self.view_is c.self.invariant.0 c.args.page
          c.args.waiting c.args.message c.plain-idle.result c.page.result.now _ _ _
          c.plain-idle.ensures c.page.ensures.bytes (rw c.send_on.ensures at c.set_entry.ensures)
          c.in_ok-serve_put_off.ensures.manager c.in_ok-serve_put_off.ensures.breaches;
      posted = c.in_ok-serve_put_off.ensures.posted
          ∙ ap (g.P.Post.ops.after c.args.post.now) posts;
      took = subst (λ (ps : List Parcel). g.P.Post.ops.takes c.args.post.now ps) posts
          c.in_ok-serve_put_off.ensures.took;
      err = search rules;
      fault = search rules;
      want = search rules;
    }
