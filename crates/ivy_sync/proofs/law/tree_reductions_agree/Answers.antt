use Rattle.ivy_sync.proofs.meeting.TreeReductions.{tree_reductions-agree}
use Rattle.ivy_sync.proofs.law.tree_reductions_agree.Goals as goal

pub returns : goal.returns
returns c = tree_reductions-agree
