use Rattle.ivy_process.specs.NodeLogs.{AddsEvents}
use Rattle.ivy_process.proofs.node.Node.pulse.Given as goal

abbrev pub invariant-loop-to : goal.invariant-loop-to
invariant-loop-to l = AddsEvents l.initial.self l.self
