use Rattle.ivy_coherence.proofs.keeping.Opened.{room_collecting, left_sound}
use Rattle.ivy_coherence.proofs.coherence.Coherence.left_with.Goals as goal

pub set_entry-requires-clause-room : goal.set_entry-requires-clause-room
set_entry-requires-clause-room g c = λ locked.
    room_collecting _ _ c.self.view_is c.self.invariant.0 c.args.page c.args.waiting
    c.requires.waits

pub invariant_of-self : goal.invariant_of-self
invariant_of-self g c = (
  left_sound g.met.M.Manager.laws _ _ c.self.view_is c.self.invariant.0 c.args.page c.args.left
      c.args.waiting _ c.requires.page c.requires.waits c.requires.left
      (rw c.new.ensures at c.set_entry.ensures),
  c.self.invariant.1,
  c.self.invariant.2,
)
