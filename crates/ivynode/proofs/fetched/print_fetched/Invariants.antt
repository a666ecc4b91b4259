use Rattle.std.proofs.Common.{map, take}
use Rattle.std.specs.Io.KnownBytes.{Appends}
use Rattle.ivy_simulation.specs.Nodes.{numbered_texts}
use Rattle.ivynode.specs.Fetched.{fetched_text}
use Rattle.ivynode.proofs.fetched.print_fetched.Given as goal

abbrev pub invariant-loop-node : goal.invariant-loop-node
invariant-loop-node g l =
    Appends (g.W.Write.contents l.initial.out) (g.W.Write.contents l.out)
    (numbered_texts (fetched_text l.fn.config) 0 (take l.node (map (λ x. x.entries.items) l.logs)))
