use Rattle.ivy_sync.proofs.Touched.{touches-keep}
use Rattle.ivy_sync.proofs.law.touches_keep.Goals as goal

pub returns : goal.returns
returns c = touches-keep
