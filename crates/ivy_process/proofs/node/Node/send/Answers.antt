use Rattle.std.proofs.Common.{sym, subst}
use Rattle.std.proofs.lemmas.Result.{IfOk-from_err}
use Rattle.ivy_process.specs.NodeLogs.{IsEmptied}
use Rattle.ivy_process.proofs.node.Node.send.Goals as goal

pub returns-in_err-take_frames : goal.returns-in_err-take_frames
returns-in_err-take_frames g c = IfOk-from_err c.from_residual.result _ c.from_residual.ensures.0

pub returns-then-is_empty : goal.returns-then-is_empty
returns-then-is_empty g c = c.in_ok-take_frames.ensures

pub returns-in_err-write_through : goal.returns-in_err-write_through
returns-in_err-write_through g c =
    IfOk-from_err c.from_residual-in_err-write_through.result _
    c.from_residual-in_err-write_through.ensures.0

pub returns : goal.returns
returns g c = subst (IsEmptied c.args.self.now) (sym c.self.view_is) c.in_ok-take_frames.ensures
