use Rattle.std.proofs.lemmas.Result.{IfOk-from_err}
use Rattle.ivy_process.proofs.node.Node.note.Goals as goal

pub returns-in_err-push_entry : goal.returns-in_err-push_entry
returns-in_err-push_entry c = IfOk-from_err c.from_residual.result _ c.from_residual.ensures.0
