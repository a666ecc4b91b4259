use Rattle.ivy_charts.proofs.StringRuns.{SoFar}
use Rattle.ivy_charts.proofs.receivers.Receivers.follow.Given as goal

abbrev pub invariant-loop : goal.invariant-loop
invariant-loop l = record {
  so_far : SoFar l.self l.to l.source l.number l.initial.served.items l.served.items l.last l.counter;
}
