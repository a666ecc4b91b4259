use Rattle.std.proofs.Common.{◌-◌}
use Rattle.ivy_process.specs.NodeLogs.{AddsEvents}
use Rattle.ivy_process.proofs.service.hear.Given as goal

abbrev pub invariant-loop-lines : goal.invariant-loop-lines
invariant-loop-lines g l = AddsEvents l.initial.node l.node

abbrev pub decreases-loop-lines : goal.decreases-loop-lines
decreases-loop-lines g l = 64 - l.lines
