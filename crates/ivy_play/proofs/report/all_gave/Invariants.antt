use Rattle.std.proofs.Common.{take}
use Rattle.ivy_play.specs.Reports.{AllGave}
use Rattle.ivy_play.proofs.report.all_gave.Given as goal

abbrev pub invariant-loop-outcome : goal.invariant-loop-outcome
invariant-loop-outcome g l = AllGave (take l.outcome-index l.outcomes)
