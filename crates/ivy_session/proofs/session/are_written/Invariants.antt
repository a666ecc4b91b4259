use Rattle.std.proofs.Common.{ℕ, ◌<◌}
use Rattle.std.specs.List.{HoldsAt}
use Rattle.ivy_program.specs.Programs.{IsWritten}
use Rattle.ivy_session.proofs.session.are_written.Given as goal

abbrev pub invariant-loop-program : goal.invariant-loop-program
invariant-loop-program g l = (k : ℕ) → k < l.program-index → HoldsAt IsWritten l.programs k
