use Rattle.ivy_sync.proofs.excluding.ArrayLocks.{array_locks-exclude}
use Rattle.ivy_sync.proofs.law.array_locks_exclude.Goals as goal

pub returns : goal.returns
returns c = array_locks-exclude
