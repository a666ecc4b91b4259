use Rattle.ivy_simulation.specs.Played.{Adds}
use Rattle.ivy_simulation.proofs.trace.trace_records.Given as goal

abbrev pub invariant-loop-place : goal.invariant-loop-place
invariant-loop-place g l = Adds (g.W.Write.contents l.initial.out) (g.W.Write.contents l.out)
