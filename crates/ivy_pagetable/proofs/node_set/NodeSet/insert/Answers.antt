use Rattle.std.proofs.Common.{ap, ◌∙◌}
use Rattle.std.specs.FinSet as set
use Rattle.ivy_pagetable.proofs.Bits.{with_bit}
use Rattle.ivy_pagetable.proofs.node_set.NodeSet.insert.Goals as goal

pub returns : goal.returns
returns c =
    with_bit c.self.inside.bits c.args.node c.requires
    ∙ ap (λ s. set.insert s c.args.node) c.self.view_is
