use Rattle.ivy_sync.proofs.excluding.TicketLocks.{ticket_locks-exclude}
use Rattle.ivy_sync.proofs.law.ticket_locks_exclude.Goals as goal

pub returns : goal.returns
returns c = ticket_locks-exclude
