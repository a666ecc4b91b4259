use Rattle.ivy_sync.proofs.meeting.WordBarriers.{word_phases-share}
use Rattle.ivy_sync.proofs.law.word_phases_share.Goals as goal

pub returns : goal.returns
returns c = word_phases-share
