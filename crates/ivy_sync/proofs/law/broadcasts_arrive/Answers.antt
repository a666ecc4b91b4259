use Rattle.ivy_sync.proofs.meeting.Broadcasts.{broadcasts-arrive}
use Rattle.ivy_sync.proofs.law.broadcasts_arrive.Goals as goal

pub returns : goal.returns
returns c = broadcasts-arrive
