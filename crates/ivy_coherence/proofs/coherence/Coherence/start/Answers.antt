use Rattle.ivy_coherence.proofs.keeping.Opened.{room_free, fault_sound}
use Rattle.ivy_coherence.proofs.coherence.Coherence.start.Goals as goal

pub set_entry-requires-clause-room : goal.set_entry-requires-clause-room
set_entry-requires-clause-room g c = λ locked.
    room_free _ _ c.self.view_is c.self.invariant.0 (rw (← c.self.view_is) at c.requires.free)
    c.args.page

pub invariant_of-self : goal.invariant_of-self
invariant_of-self g c = (
  fault_sound g.met.M.Manager.laws _ _ c.self.view_is c.self.invariant.0 c.args.page c.args.word
      c.args.call c.args.idle _ _ c.requires.page c.requires.word c.requires.call
      c.ranges.call.fits
      (rw (← c.self.view_is) at c.requires.idle) c.requires.short
      (rw (← c.self.view_is) at c.requires.free)
      c.in_ok-entry.ensures.entry c.set_entry.ensures,
  c.self.invariant.1,
  c.self.invariant.2,
)
