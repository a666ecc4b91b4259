use Rattle.ivy_sync.proofs.meeting.WordBarriers.{word_barrier-separates}
use Rattle.ivy_sync.proofs.law.word_barrier_separates.Goals as goal

pub returns : goal.returns
returns c = word_barrier-separates
