use Rattle.std.proofs.lemmas.Result.{IfOk-from_err}
use Rattle.ivy_process.specs.NodeLogs.{StreamsPart}
use Rattle.ivy_process.proofs.Logged.{streams-begin, streams-further, streams-whole}
use Rattle.ivy_process.proofs.service.serve_watched.Goals as goal

pub returns : goal.returns
returns g c =
    let L = g.L.Write.contents in
    let so : StreamsPart c.args.node.now c.serve_on.new.node (g.L.Write.contents c.args.streams.now.log)
    (g.L.Write.contents c.serve_on.new.streams.log) =
    streams-further c.args.node.now c.awake.new.node c.serve_on.new.node (L c.args.streams.now.log)
    (L c.args.streams.now.log) (L c.serve_on.new.streams.log)
    (streams-begin c.args.node.now c.awake.new.node (L c.args.streams.now.log) c.in_ok-service.ensures)
    c.in_ok-serve_on.ensures in
    streams-whole c.args.node.now c.serve_on.new.node c.speak.new.self (L c.args.streams.now.log)
    (L c.serve_on.new.streams.log) (L c.speak.new.log) so c.in_ok-speak.ensures

pub returns-in_err-service : goal.returns-in_err-service
returns-in_err-service g c = IfOk-from_err c.from_residual.result _ c.from_residual.ensures.0

pub returns-in_err-serve_on : goal.returns-in_err-serve_on
returns-in_err-serve_on g c = IfOk-from_err c.from_residual-in_err-serve_on.result _ c.from_residual-in_err-serve_on.ensures.0

pub returns-in_err-speak : goal.returns-in_err-speak
returns-in_err-speak g c = IfOk-from_err c.from_residual-in_err-speak.result _ c.from_residual-in_err-speak.ensures.0
