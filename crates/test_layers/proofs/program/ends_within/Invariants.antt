use Rattle.ivy_program.specs.Programs.{IsWritten}
use Rattle.test_layers.proofs.program.ends_within.Given as goal

abbrev pub invariant-loop : goal.invariant-loop
invariant-loop g l = IsWritten l.machine.program
