use Rattle.ivy_moves.proofs.Carried.{carry_over}
use Rattle.ivy_moves.proofs.laws.runs_carry_over.Goals as goal

pub returns : goal.returns
returns g c = λ rules config f unseen. carry_over rules config f unseen
