use Rattle.ivy_sync.proofs.meeting.Phases.{set_up-is_there}
use Rattle.ivy_sync.proofs.law.set_up_is_there.Goals as goal

pub returns : goal.returns
returns c = set_up-is_there
