use Rattle.std.proofs.lemmas.Result.{IfOk-from_err}
use Rattle.ivy_process.proofs.Logged.{stays-as, takes-none}
use Rattle.ivy_process.proofs.node.Node.take.Goals as goal

pub returns-clause-on : goal.returns-clause-on
returns-clause-on c = stays-as c.args.self.now c.is_welcome.new.self c.is_welcome.ensures

pub returns-clause-taken : goal.returns-clause-taken
returns-clause-taken c = takes-none _ c.args.self.now c.is_welcome.new.self c.is_welcome.ensures

pub returns-in_err-string-clause-on : goal.returns-in_err-string-clause-on
returns-in_err-string-clause-on c = IfOk-from_err c.from_residual.result _ c.from_residual.ensures.0

pub returns-in_err-string-clause-taken : goal.returns-in_err-string-clause-taken
returns-in_err-string-clause-taken c = IfOk-from_err c.from_residual.result _ c.from_residual.ensures.0
