use Rattle.ivy_replay.specs.Orders.{HavePartsBelow}
use Rattle.ivy_replay.proofs.explanation.has_parts.Given as goal

abbrev pub invariant-loop-node : goal.invariant-loop-node
invariant-loop-node l = HavePartsBelow l.node l.world.world l.order
