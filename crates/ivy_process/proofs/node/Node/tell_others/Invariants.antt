use Rattle.std.proofs.Common.{◌≡◌}
use Rattle.ivy_process.proofs.node.Node.tell_others.Given as goal

abbrev pub invariant-loop-node : goal.invariant-loop-node
invariant-loop-node g l = l.self ≡ l.initial.self
