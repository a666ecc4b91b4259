use Rattle.ivy_sync.proofs.meeting.TreeBarriers.{tree_barrier-separates}
use Rattle.ivy_sync.proofs.law.tree_barrier_separates.Goals as goal

pub returns : goal.returns
returns c = tree_barrier-separates
