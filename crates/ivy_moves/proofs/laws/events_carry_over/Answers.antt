use Rattle.ivy_moves.proofs.Unseen.{events-over}
use Rattle.ivy_moves.proofs.laws.events_carry_over.Goals as goal

pub returns : goal.returns
returns g c = λ rules config f unseen. events-over rules config f unseen
