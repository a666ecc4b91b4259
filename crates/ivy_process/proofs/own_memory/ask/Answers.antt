use Rattle.std.proofs.Common.{[], ◌∷◌}
use Rattle.std.proofs.lemmas.Result.{IfOk-weaker}
use Rattle.ivy_process.specs.OwnNodes.{begun}
use Rattle.ivy_process.proofs.OwnNodes.{called-own, own-further}
use Rattle.ivy_process.proofs.own_memory.ask.Goals as goal

pub returns-clause-replies : goal.returns-clause-replies
returns-clause-replies g c =
    let L = g.L.Write.contents in
    let served = c.args.served.now in
    IfOk-weaker c.hear_reply.result _ _
    (λ reply replies. record {
      streams = own-further (begun [] served.node (L served.streams.log)) [] c.ask.new.self
          c.hear_reply.new.served.node (L served.streams.log) (L c.hear_reply.new.served.streams.log) []
          (record { call = c.args.call; reply = reply } ∷ [])
          (called-own [] c.args.call served.node c.ask.new.self (L served.streams.log) c.in_ok-ask.ensures)
          replies.streams;
      last = replies.last;
    })
    c.hear_reply.ensures.replies
