use Rattle.std.proofs.Common.{◌≡◌}
use Rattle.std.specs.FinSet as set
use Rattle.ivy_pagetable.proofs.Bits.{passing}
use Rattle.ivy_pagetable.proofs.node_set.NodeSet.nodes.Given as goal

abbrev pub invariant-loop-node : goal.invariant-loop-node
invariant-loop-node l = l.nodes.items ≡ passing (set.contains l.self) l.node
