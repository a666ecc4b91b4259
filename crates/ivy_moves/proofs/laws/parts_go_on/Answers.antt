use Rattle.ivy_moves.proofs.GoingOn.{parts_go_on}
use Rattle.ivy_moves.proofs.laws.parts_go_on.Goals as goal

pub returns : goal.returns
returns g c = λ rules config. parts_go_on rules config
