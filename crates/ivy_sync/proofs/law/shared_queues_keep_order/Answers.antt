use Rattle.ivy_sync.proofs.queueing.Sharing.{shared_queues-keep_order}
use Rattle.ivy_sync.proofs.law.shared_queues_keep_order.Goals as goal

pub returns : goal.returns
returns c = shared_queues-keep_order
