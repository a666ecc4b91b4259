use Rattle.std.proofs.Common.{refl}
use Rattle.ivy_process.proofs.Kept.{keeps-same}
use Rattle.ivy_process.proofs.Logged.{stays, streams-begin, streams-further}
use Rattle.std.proofs.lemmas.Result.{IfOk-from_err}
use Rattle.ivy_process.proofs.service.serve_on.Goals as goal

pub loop-init : goal.loop-init
loop-init g c =
    streams-begin c.args.node.now c.args.node.now (g.L.Write.contents c.args.streams.now.log)
    (stays c.args.node.now c.args.node.now refl refl refl refl
    (keeps-same c.args.node.now.site c.args.node.now.site refl))

pub loop-preserved : goal.loop-preserved
loop-preserved g c =
    let L = g.L.Write.contents in
    streams-further c.args.node.now c.loop.node c.serve_once.new.node (L c.args.streams.now.log) (L c.loop.streams.log)
    (L c.serve_once.new.streams.log) c.loop.invariant c.in_ok-serve_once.ensures

pub returns-then-branch : goal.returns-then-branch
returns-then-branch g c =
    let L = g.L.Write.contents in
    streams-further c.args.node.now c.loop.node c.serve_once.new.node (L c.args.streams.now.log) (L c.loop.streams.log)
    (L c.serve_once.new.streams.log) c.loop.invariant c.in_ok-serve_once.ensures

pub returns-then-is_free : goal.returns-then-is_free
returns-then-is_free g c = c.loop.invariant

pub returns-in_err-serve_once : goal.returns-in_err-serve_once
returns-in_err-serve_once g c = IfOk-from_err c.from_residual.result _ c.from_residual.ensures.0

pub returns : goal.returns
returns g c = c.loop.invariant
