use Rattle.ivy_alloc.proofs.Answered.{has_replies, heap_is_flat, stays_apart, takes_back}
use Rattle.ivy_alloc.proofs.law.heap_is_flat.Goals as goal

pub returns-clause-flat : goal.returns-clause-flat
returns-clause-flat c = heap_is_flat

pub returns-clause-replies : goal.returns-clause-replies
returns-clause-replies c = has_replies

pub returns-clause-apart : goal.returns-clause-apart
returns-clause-apart c = stays_apart

pub returns-clause-back : goal.returns-clause-back
returns-clause-back c = takes_back
