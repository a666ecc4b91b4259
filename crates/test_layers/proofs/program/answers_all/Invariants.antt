use Rattle.ivy_program.specs.Programs.{IsWritten}
use Rattle.test_layers.proofs.program.answers_all.Given as goal

abbrev pub invariant-loop : goal.invariant-loop
invariant-loop g l = IsWritten l.machine.program
