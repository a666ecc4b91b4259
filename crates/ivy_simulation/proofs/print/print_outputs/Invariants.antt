use Rattle.std.proofs.Common.{take}
use Rattle.std.specs.Io.KnownBytes.{Appends}
use Rattle.ivy_simulation.specs.Nodes.{outputs_text}
use Rattle.ivy_simulation.proofs.print.print_outputs.Given as goal

abbrev pub invariant-loop-node : goal.invariant-loop-node
invariant-loop-node g l =
    Appends (g.W.Write.contents l.initial.out) (g.W.Write.contents l.out)
    (outputs_text (take l.node (g.N.Outputs.outputs l.nodes)))
