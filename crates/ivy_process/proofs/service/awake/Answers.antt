use Rattle.std.proofs.lemmas.Result.{IfOk-from_err}
use Rattle.ivy_process.proofs.Logged.{goes_further}
use Rattle.ivy_process.proofs.service.awake.Goals as goal

pub returns : goal.returns
returns g c =
    goes_further c.args.node.now c.go_on_all.new.self c.pulse.new.self c.in_ok-go_on_all.ensures
    c.in_ok-pulse.ensures

pub returns-in_err-go_on_all : goal.returns-in_err-go_on_all
returns-in_err-go_on_all g c = IfOk-from_err c.from_residual.result _ c.from_residual.ensures.0

pub returns-in_err-pulse : goal.returns-in_err-pulse
returns-in_err-pulse g c = IfOk-from_err c.from_residual-in_err-pulse.result _ c.from_residual-in_err-pulse.ensures.0
