use Rattle.std.proofs.Common.{◌≡◌}
use Rattle.ivy_process.proofs.node.Node.push_sums.Given as goal

abbrev pub invariant-loop-to : goal.invariant-loop-to
invariant-loop-to l = l.self ≡ l.initial.self
