use Rattle.std.proofs.Common.{◌≡◌}
use Rattle.ivy_model.specs.Rows.{numbers_in}
use Rattle.example_programs.proofs.matrix.numbers_of.Given as goal

abbrev pub invariant-loop-n : goal.invariant-loop-n
invariant-loop-n l = l.numbers.items ≡ numbers_in l.n l.bytes
