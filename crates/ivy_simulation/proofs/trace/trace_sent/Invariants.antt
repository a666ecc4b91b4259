use Rattle.ivy_simulation.specs.Played.{Adds}
use Rattle.ivy_simulation.proofs.trace.trace_sent.Given as goal

abbrev pub invariant-loop-index : goal.invariant-loop-index
invariant-loop-index g l = Adds (g.W.Write.contents l.initial.out) (g.W.Write.contents l.out)
