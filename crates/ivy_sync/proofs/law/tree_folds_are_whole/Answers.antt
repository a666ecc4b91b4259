use Rattle.ivy_sync.proofs.meeting.TreeFolds.{tree_folds-are_whole}
use Rattle.ivy_sync.proofs.law.tree_folds_are_whole.Goals as goal

pub returns : goal.returns
returns c = tree_folds-are_whole
