use Rattle.std.proofs.Common.{refl, arith}
use Rattle.test_surface.proofs.layers.an_access.Goals as goal

pub need-requires-clause-word : goal.need-requires-clause-word
need-requires-clause-word g c = record { width = (3, omega arith, refl); aligned = refl; within = omega arith }
