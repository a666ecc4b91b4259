use Rattle.std.proofs.Common.{◌≡◌, take}
use Rattle.ivy_moves.specs.Marks.{marks}
use Rattle.ivy_moves.proofs.same.retold.Given as goal

-- the story of the entries so far
abbrev pub invariant-loop-event : goal.invariant-loop-event
invariant-loop-event g l = l.story.told ≡ marks (take l.event-index l.events)
