use Rattle.std.proofs.Common.{◌≡◌, map, replicate}
use Rattle.ivy_link.specs.stated.Linked.{fresh}
use Rattle.ivy_link.specs.Sides.{peer_of, held_of}
use Rattle.ivy_link.specs.Windows.{first_window}
use Rattle.ivy_link.proofs.link.Link.new.Given as goal

abbrev pub invariant-loop : goal.invariant-loop
invariant-loop g l = record {
  peers : map peer_of l.sides.items ≡ replicate l.counter fresh;
  held : map held_of l.sides.items ≡ replicate l.counter first_window;
}
