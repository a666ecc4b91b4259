use Rattle.std.proofs.Common.{◌≡◌, ◌∙◌, ap}
use Rattle.std.specs.Prelude.{length}
use Rattle.std.proofs.lemmas.Result.{IfOk-from_err}
use Rattle.ivy_process.specs.NodeLogs.{Served}
use Rattle.ivy_process.proofs.Logged.{logged-on}
use Rattle.ivy_process.proofs.node.Node.speak.Goals as goal

pub returns-in_err-write_log : goal.returns-in_err-write_log
returns-in_err-write_log g c = IfOk-from_err c.from_residual.result _ c.from_residual.ensures.0

pub returns-in_err-send : goal.returns-in_err-send
returns-in_err-send g c = IfOk-from_err c.from_residual-in_err-send.result _ c.from_residual-in_err-send.ensures.0

pub returns : goal.returns
returns g c =
    let L = g.L.Write.contents in
    let sent = c.send.new.self in
    let same : c.tell_others.new.self ≡ record sent { told = length sent.site.node.core.process.state.output } =
    c.tell_others.ensures ∙ c.print.ensures.all in
    logged-on c.args.self.now c.write_log.new.self sent c.tell_others.new.self (L c.args.log.now)
    (L c.write_log.new.log) c.in_ok-write_log.ensures c.in_ok-send.ensures (ap (λ (x : Served). x.site) same)
    (ap (λ (x : Served). x.unlogged) same) (ap (λ (x : Served). x.left) same)
