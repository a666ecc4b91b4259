use Rattle.std.proofs.Common.{ap, ◌∙◌}
use Rattle.std.specs.FinSet as set
use Rattle.ivy_pagetable.proofs.Bits.{without_bit}
use Rattle.ivy_pagetable.proofs.node_set.NodeSet.remove.Goals as goal

pub returns : goal.returns
returns c =
    without_bit c.self.inside.bits c.args.node c.self.invariant c.requires
    ∙ ap (λ s. set.remove s c.args.node) c.self.view_is
