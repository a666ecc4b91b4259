use Rattle.std.proofs.Common.{◌≡◌}
use Rattle.ivy_own.proofs.memory.OwnMemory.wait_for_stores.Given as goal

abbrev pub invariant-loop : goal.invariant-loop
invariant-loop g l = record {
  waits : l.self-inside.side ≡ l.fn.self;
}
