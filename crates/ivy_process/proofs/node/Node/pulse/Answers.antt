use Rattle.std.proofs.Common.{refl, subst}
use Rattle.std.proofs.lemmas.Result.{IfOk-from_err}
use Rattle.ivy_process.specs.NodeLogs.{AddsEvents, Served}
use Rattle.ivy_process.proofs.Kept.{keeps-same}
use Rattle.ivy_process.proofs.Logged.{stays, goes_further}
use Rattle.ivy_process.proofs.node.Node.pulse.Goals as goal

pub loop-to-init : goal.loop-to-init
loop-to-init c = stays _ _ refl refl refl refl (keeps-same _ _ refl)

pub loop-to-preserved : goal.loop-to-preserved
loop-to-preserved c = goes_further _ _ _ c.loop-to.invariant c.in_ok-pulse_to.ensures

pub returns : goal.returns
returns c = subst (λ (s : Served). AddsEvents s c.loop-to.self) c.in_ok-push_sums.ensures c.loop-to.invariant

pub returns-in_err-push_sums : goal.returns-in_err-push_sums
returns-in_err-push_sums c = IfOk-from_err c.from_residual.result _ c.from_residual.ensures.0

pub returns-in_err-pulse_to : goal.returns-in_err-pulse_to
returns-in_err-pulse_to c =
    IfOk-from_err c.from_residual-in_err-pulse_to.result _ c.from_residual-in_err-pulse_to.ensures.0
