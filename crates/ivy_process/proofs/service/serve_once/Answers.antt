use Rattle.std.proofs.lemmas.Result.{IfOk-from_err}
use Rattle.ivy_process.specs.NodeLogs.{AddsEvents, StreamsPart}
use Rattle.ivy_process.proofs.Logged.{goes_further, streams-begin, streams-on, streams-logged}
use Rattle.ivy_process.proofs.service.serve_once.Goals as goal

pub returns-then-heard : goal.returns-then-heard
returns-then-heard g c =
    let L = g.L.Write.contents in
    let went : AddsEvents c.args.node.now c.make_watched_turns.new.self =
    goes_further c.args.node.now c.hear.new.node c.make_watched_turns.new.self c.in_ok-heard.ensures
    c.in_ok-made.ensures in
    streams-logged c.args.node.now c.make_watched_turns.new.self c.speak.new.self (L c.args.streams.now.log)
    (L c.args.streams.now.log) (L c.speak.new.log)
    (streams-begin c.args.node.now c.make_watched_turns.new.self (L c.args.streams.now.log) went) c.in_ok-speak.ensures

pub returns-else-saturating_sub-every : goal.returns-else-saturating_sub-every
returns-else-saturating_sub-every g c =
    let L = g.L.Write.contents in
    let went : AddsEvents c.args.node.now c.make_watched_turns.new.self =
    goes_further c.args.node.now c.hear.new.node c.make_watched_turns.new.self c.in_ok-heard.ensures
    c.in_ok-made.ensures in
    streams-logged c.args.node.now c.make_watched_turns.new.self c.speak.new.self (L c.args.streams.now.log)
    (L c.args.streams.now.log) (L c.speak.new.log)
    (streams-begin c.args.node.now c.make_watched_turns.new.self (L c.args.streams.now.log) went) c.in_ok-speak.ensures

pub returns-in_ok-speak-2 : goal.returns-in_ok-speak-2
returns-in_ok-speak-2 g c =
    let L = g.L.Write.contents in
    let went : AddsEvents c.args.node.now c.make_watched_turns.new.self =
    goes_further c.args.node.now c.hear.new.node c.make_watched_turns.new.self c.in_ok-heard.ensures
    c.in_ok-made.ensures in
    let first : StreamsPart c.args.node.now c.speak.new.self (g.L.Write.contents c.args.streams.now.log)
    (g.L.Write.contents c.speak.new.log) =
    streams-logged c.args.node.now c.make_watched_turns.new.self c.speak.new.self (L c.args.streams.now.log)
    (L c.args.streams.now.log) (L c.speak.new.log)
    (streams-begin c.args.node.now c.make_watched_turns.new.self (L c.args.streams.now.log) went) c.in_ok-speak.ensures in
    streams-logged c.args.node.now c.pulse.new.self c.speak-then-saturating_sub-every.new.self
    (L c.args.streams.now.log) (L c.speak.new.log) (L c.speak-then-saturating_sub-every.new.log)
    (streams-on c.args.node.now c.speak.new.self c.pulse.new.self (L c.args.streams.now.log)
    (L c.speak.new.log) (L c.speak.new.log) first c.in_ok-pulse.ensures)
    c.in_ok-speak-2.ensures

pub returns-in_err-heard : goal.returns-in_err-heard
returns-in_err-heard g c = IfOk-from_err c.from_residual.result _ c.from_residual.ensures.0

pub returns-in_err-made : goal.returns-in_err-made
returns-in_err-made g c = IfOk-from_err c.from_residual-in_err-made.result _ c.from_residual-in_err-made.ensures.0

pub returns-in_err-speak : goal.returns-in_err-speak
returns-in_err-speak g c = IfOk-from_err c.from_residual-in_err-speak.result _ c.from_residual-in_err-speak.ensures.0

pub returns-in_err-check_kept : goal.returns-in_err-check_kept
returns-in_err-check_kept g c = IfOk-from_err c.from_residual-in_err-check_kept.result _ c.from_residual-in_err-check_kept.ensures.0

pub returns-in_err-pulse : goal.returns-in_err-pulse
returns-in_err-pulse g c = IfOk-from_err c.from_residual-in_err-pulse.result _ c.from_residual-in_err-pulse.ensures.0

pub returns-in_err-speak-2 : goal.returns-in_err-speak-2
returns-in_err-speak-2 g c = IfOk-from_err c.from_residual-in_err-speak-2.result _ c.from_residual-in_err-speak-2.ensures.0
