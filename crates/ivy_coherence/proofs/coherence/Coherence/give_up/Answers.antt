use Rattle.ivy_pagetable.specs.declared.Request.TheVariants as request
use Rattle.ivy_coherence.proofs.keeping.Opened.{room_waiting, giving_sound}
use Rattle.ivy_coherence.proofs.coherence.Coherence.give_up.Goals as goal

pub set_entry-requires-clause-room : goal.set_entry-requires-clause-room
set_entry-requires-clause-room g c = λ locked.
    room_waiting _ _ c.self.view_is c.self.invariant.0 c.args.page request.Write c.args.waiting
    c.requires.waits

pub invariant_of-self : goal.invariant_of-self
invariant_of-self g c = (
  giving_sound g.met.M.Manager.laws _ _ c.self.view_is c.self.invariant.0 c.args.page c.args.waiting
      c.args.message _ _ c.requires.page c.requires.waits c.requires.message
      (rw c.new.ensures at c.set_entry.ensures) c.on_invalidated.ensures,
  c.self.invariant.1,
  c.self.invariant.2,
)
