use Rattle.std.proofs.Common.{refl}
use Rattle.std.proofs.lemmas.Result.{IfOk-from_err}
use Rattle.ivy_process.proofs.Kept.{keeps-same}
use Rattle.ivy_process.proofs.Logged.{goes_further, stays}
use Rattle.ivy_process.proofs.service.hear.Goals as goal

pub loop-lines-init : goal.loop-lines-init
loop-lines-init g c = stays _ _ refl refl refl refl (keeps-same _ _ refl)

pub loop-lines-preserved : goal.loop-lines-preserved
loop-lines-preserved g c = goes_further _ _ _ c.loop-lines.invariant c.in_ok-hear-in-Line.ensures.on

pub returns-in_err-hear-in-Line : goal.returns-in_err-hear-in-Line
returns-in_err-hear-in-Line g c = IfOk-from_err c.from_residual.result _ c.from_residual.ensures.0
