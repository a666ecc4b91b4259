use Rattle.ivy_simulation.proofs.Printing.{adds-more}
use Rattle.ivy_simulation.proofs.trace.trace_records.Goals as goal

pub loop-place-preserved : goal.loop-place-preserved
loop-place-preserved g c = adds-more _ _ _ _ c.loop-place.invariant c.in_ok-writeln.ensures.bytes
