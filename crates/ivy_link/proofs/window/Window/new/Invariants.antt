use Rattle.std.proofs.Common.{◌≡◌, ◌≤◌, replicate, None}
use Rattle.std.specs.VecDeque.{deque_capacity}
use Rattle.ivy_link.proofs.window.Window.new.Given as goal

abbrev pub invariant-loop : goal.invariant-loop
invariant-loop g l = record {
  items : l.places.items ≡ replicate l.counter None;
  capacity : 32 ≤ deque_capacity l.places;
}
