use Rattle.ivy_sync.proofs.meeting.TreeBarriers.{tree_phases-share}
use Rattle.ivy_sync.proofs.law.tree_phases_share.Goals as goal

pub returns : goal.returns
returns c = tree_phases-share
