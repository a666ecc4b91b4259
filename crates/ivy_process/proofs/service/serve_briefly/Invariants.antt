use Rattle.ivy_process.specs.NodeLogs.{StreamsPart}
use Rattle.ivy_process.proofs.service.serve_briefly.Given as goal

abbrev pub invariant-loop : goal.invariant-loop
invariant-loop g l = StreamsPart l.fn.node l.node (g.L.Write.contents l.fn.streams.log) (g.L.Write.contents l.streams.log)
