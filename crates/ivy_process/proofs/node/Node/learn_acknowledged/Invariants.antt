use Rattle.std.proofs.Common.{◌≡◌}
use Rattle.ivy_process.proofs.node.Node.learn_acknowledged.Given as goal

abbrev pub invariant-loop-entry : goal.invariant-loop-entry
invariant-loop-entry l = l.self ≡ l.initial.self
