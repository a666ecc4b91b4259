use Rattle.std.proofs.Common.{◌≡◌, length}
use Rattle.ivy_own.proofs.memory.OwnMemory.wait_for_loads.Given as goal

abbrev pub invariant-loop : goal.invariant-loop
invariant-loop g l = record {
  waits : l.self-inside.side ≡ l.fn.self;
  sized : length l.into ≡ length l.fn.into;
}
