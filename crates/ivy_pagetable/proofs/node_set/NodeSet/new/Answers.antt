use Rattle.ivy_pagetable.proofs.Bits.{no_bits}
use Rattle.ivy_pagetable.proofs.node_set.NodeSet.new.Goals as goal

pub returns : goal.returns
returns c = no_bits
