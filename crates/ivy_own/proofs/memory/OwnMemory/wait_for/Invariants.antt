use Rattle.std.proofs.Common.{◌≡◌}
use Rattle.ivy_own.proofs.memory.OwnMemory.wait_for.Given as goal

abbrev pub invariant-loop : goal.invariant-loop
invariant-loop g l = l.self ≡ l.fn.self
