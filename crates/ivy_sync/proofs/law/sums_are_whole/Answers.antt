use Rattle.ivy_sync.proofs.meeting.Sums.{sums-are_whole}
use Rattle.ivy_sync.proofs.law.sums_are_whole.Goals as goal

pub returns : goal.returns
returns c = sums-are_whole
