use Rattle.ivy_link.proofs.Orderly.{delivers-in-order}
use Rattle.ivy_link.proofs.order.delivers_in_order.Goals as goal

pub returns : goal.returns
returns c = delivers-in-order
