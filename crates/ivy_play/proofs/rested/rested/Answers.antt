-- The moves that were added are no more than the world may settle in.
use Rattle.std.proofs.Common.{arith}
use Rattle.ivy_play.proofs.rested.rested.Goals as goal

pub returns-clause-drawn : goal.returns-clause-drawn
returns-clause-drawn g c = λ config had. record {
  within = omega (arith, c.requires.within, c.in_ok-spend.ensures.longer);
  few = omega (arith, had.few, c.in_ok-spend.ensures.few);
}
