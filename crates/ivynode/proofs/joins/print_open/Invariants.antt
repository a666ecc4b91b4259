use Rattle.std.proofs.Common.{map, take}
use Rattle.std.specs.List.{zip}
use Rattle.std.specs.Io.KnownBytes.{Appends}
use Rattle.ivy_simulation.specs.Nodes.{numbered_texts}
use Rattle.ivynode.specs.OwnJoined.{open_in}
use Rattle.ivynode.proofs.joins.print_open.Given as goal

abbrev pub invariant-loop-node : goal.invariant-loop-node
invariant-loop-node g l =
    Appends (g.W.Write.contents l.initial.out) (g.W.Write.contents l.out)
    (numbered_texts open_in 0 (take l.node (zip (map (λ x. x.entries.items) l.logs) l.joined)))
