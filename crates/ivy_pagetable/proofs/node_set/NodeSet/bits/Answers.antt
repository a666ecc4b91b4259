use Rattle.std.proofs.Common.{sym, ap, ◌∙◌, arith}
use Rattle.ivy_pagetable.specs.stated.NodeSets.{bits_of}
use Rattle.ivy_pagetable.proofs.Bits.{bits_of_with}
use Rattle.ivy_pagetable.proofs.node_set.NodeSet.bits.Goals as goal

pub returns : goal.returns
returns c =
    sym (bits_of_with c.self.inside.bits (omega (arith, c.self.invariant)))
    ∙ ap bits_of c.self.view_is
