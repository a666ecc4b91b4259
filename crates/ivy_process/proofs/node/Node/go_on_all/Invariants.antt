use Rattle.ivy_process.specs.NodeLogs.{AddsEvents}
use Rattle.ivy_process.proofs.node.Node.go_on_all.Given as goal

abbrev pub invariant-loop-from : goal.invariant-loop-from
invariant-loop-from l = AddsEvents l.initial.self l.self
