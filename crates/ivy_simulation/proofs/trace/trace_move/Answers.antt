use Rattle.ivy_simulation.proofs.Printing.{adds-on}
use Rattle.ivy_simulation.proofs.trace.trace_move.Goals as goal

pub returns-clause-printed : goal.returns-clause-printed
returns-clause-printed g c = adds-on _ _ _ c.in_ok-trace_sent.ensures c.in_ok-trace_records.ensures
