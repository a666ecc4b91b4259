use Rattle.std.proofs.Common.{take}
use Rattle.std.specs.Io.KnownBytes.{Appends}
use Rattle.ivy_simulation.specs.Nodes.{numbered_texts, end_text}
use Rattle.ivy_simulation.proofs.print.print_ends.Given as goal

abbrev pub invariant-loop-node : goal.invariant-loop-node
invariant-loop-node g l =
    Appends (g.W.Write.contents l.initial.out) (g.W.Write.contents l.out)
    (numbered_texts end_text 0 (take l.node l.world.world.nodes))
