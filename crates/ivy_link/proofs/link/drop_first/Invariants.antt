use Rattle.std.proofs.Common.{◌≡◌, drop}
use Rattle.ivy_link.proofs.link.drop_first.Given as goal

abbrev pub invariant-loop : goal.invariant-loop
invariant-loop g l = l.queue.items ≡ drop l.counter l.fn.queue.items
