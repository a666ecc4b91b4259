use Rattle.std.proofs.lemmas.Result.{IfOk-from_err}
use Rattle.ivy_process.proofs.own_memory.finish.Goals as goal

pub returns-in_err-serve-clause-gave : goal.returns-in_err-serve-clause-gave
returns-in_err-serve-clause-gave g c = IfOk-from_err c.from_residual.result _ c.from_residual.ensures.0

pub returns-in_err-serve-clause-went : goal.returns-in_err-serve-clause-went
returns-in_err-serve-clause-went g c = IfOk-from_err c.from_residual.result _ c.from_residual.ensures.0

pub returns-in_err-serve-clause-told : goal.returns-in_err-serve-clause-told
returns-in_err-serve-clause-told g c = IfOk-from_err c.from_residual.result _ c.from_residual.ensures.0
