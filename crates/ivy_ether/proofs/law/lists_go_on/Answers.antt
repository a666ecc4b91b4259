use Rattle.ivy_ether.proofs.Further.{lists_go_on}
use Rattle.ivy_ether.proofs.law.lists_go_on.Goals as goal

pub returns : goal.returns
returns g c = lists_go_on
