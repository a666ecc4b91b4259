use Rattle.std.proofs.Common.{◌≡◌, take}
use Rattle.ivy_moves.specs.Marks.{marks}
use Rattle.ivy_moves.proofs.same.copy_events.Given as goal

abbrev pub invariant-loop-event : goal.invariant-loop-event
invariant-loop-event g l = marks l.copy.items ≡ marks (take l.event-index l.events)
