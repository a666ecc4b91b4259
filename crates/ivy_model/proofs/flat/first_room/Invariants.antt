use Rattle.ivy_model.proofs.Walk.{IsWalkedTo}
use Rattle.ivy_model.proofs.flat.first_room.Given as goal

abbrev pub invariant-loop-start : goal.invariant-loop-start
invariant-loop-start g l = IsWalkedTo l.config l.blocks.entries l.size l.addr l.start-iterator
