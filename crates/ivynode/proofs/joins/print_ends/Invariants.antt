use Rattle.std.proofs.Common.{take}
use Rattle.std.specs.Io.KnownBytes.{Appends}
use Rattle.ivy_simulation.specs.Nodes.{numbered_texts}
use Rattle.ivynode.specs.Joined.{end_in}
use Rattle.ivynode.proofs.joins.print_ends.Given as goal

abbrev pub invariant-loop-node : goal.invariant-loop-node
invariant-loop-node g l =
    Appends (g.W.Write.contents l.initial.out) (g.W.Write.contents l.out)
    (numbered_texts end_in 0 (take l.node l.joined))
