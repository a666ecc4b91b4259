use Rattle.ivy_simulation.proofs.Printing.{adds-more}
use Rattle.ivy_simulation.proofs.trace.trace_sent.Goals as goal

pub loop-index-preserved : goal.loop-index-preserved
loop-index-preserved g c = adds-more _ _ _ _ c.loop-index.invariant c.in_ok-writeln.ensures.bytes
