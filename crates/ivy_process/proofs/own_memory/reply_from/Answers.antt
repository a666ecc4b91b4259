use Rattle.std.proofs.Common.{rules, ◌≡◌, length, sym, subst}
use Rattle.std.proofs.lemmas.Result.{IfOk-from_err}
use Rattle.ivy_process.specs.OwnNodes.{IsRecalled, RepliesFrom}
use Rattle.ivy_process.proofs.OwnNodes.{replied-again, replied-now}
use Rattle.ivy_process.proofs.own_memory.reply_from.Goals as goal

pub returns-in-Known : goal.returns-in-Known
returns-in-Known g c =
    let past = c.args.past.now.entries.items in
    let served = c.args.served.now in
    let said : IsRecalled c.args.past.now.entries.items c.args.place c.args.call c.in-Ok.recalled =
    search rules in
    replied-again past c.args.place c.in-Known.next served.answered served.node (g.L.Write.contents served.streams.log)
    c.args.call c.in-Known.reply
    (subst (λ r. IsRecalled past c.args.place c.args.call r) c.in-Known.is said)

pub returns : goal.returns
returns g c =
    let L = g.L.Write.contents in
    let past = c.args.past.now.entries.items in
    let served = c.args.served.now in
    let said : IsRecalled c.args.past.now.entries.items c.args.place c.args.call c.in-Ok.recalled =
    search rules in
    let end : c.len.result ≡ length c.args.past.now.entries.items = search rules in
    subst
    (λ n. RepliesFrom past c.args.call c.in_ok-reply.reply c.args.place c.len.result served.answered n served.node
    c.reply_to.new.served.node (L served.streams.log) (L c.reply_to.new.served.streams.log))
    (sym c.in_ok-reply.ensures.one)
    (replied-now past c.args.place c.len.result served.answered served.node c.reply_to.new.served.node
    (L served.streams.log) (L c.reply_to.new.served.streams.log) c.args.call c.in_ok-reply.reply c.in-Ok.recalled
    c.in_default.not-Known said end c.in_ok-reply.ensures.replies)

pub returns-in_err-reply : goal.returns-in_err-reply
returns-in_err-reply g c = IfOk-from_err c.from_residual.result _ c.from_residual.ensures.0
