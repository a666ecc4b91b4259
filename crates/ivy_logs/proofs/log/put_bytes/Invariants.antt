use Rattle.ivy_logs.proofs.Pairs.{IsRead}
use Rattle.ivy_logs.proofs.log.put_bytes.Given as goal

abbrev pub invariant-loop-at : goal.invariant-loop-at
invariant-loop-at l = IsRead l.digits l.places l.at l.all
