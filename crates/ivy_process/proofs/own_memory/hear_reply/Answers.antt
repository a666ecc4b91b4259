use Rattle.std.proofs.Common.{◌∙◌, [], ◌∷◌, sym, subst}
use Rattle.ivy_calls.specs.declared.Answer.{Answer}
use Rattle.ivy_site.specs.SiteView.{SiteView}
use Rattle.ivy_join.specs.Remade.{IsAnsweredLast}
use Rattle.ivy_join.proofs.AnswersTold.{last-many}
use Rattle.ivy_process.specs.OwnNodes.{begun}
use Rattle.ivy_process.proofs.OwnNodes.{answered-own, own-further, streams-own}
use Rattle.ivy_process.proofs.own_memory.hear_reply.Goals as goal

pub returns-clause-replies : goal.returns-clause-replies
returns-clause-replies g c =
    let L = g.L.Write.contents in
    let served = c.args.served.now in
    let noted = c.in_ok-reply.ensures in
    let one : Answer = record { call = c.args.call; reply = c.in_ok-reply.reply } in record {
      streams = own-further (begun [] served.node (L served.streams.log)) [] c.serve_on.new.node c.answer.new.self
          (L c.serve_on.new.streams.log) (L c.serve_on.new.streams.log) [] (one ∷ [])
          (streams-own [] served.node c.serve_on.new.node (L served.streams.log) (L c.serve_on.new.streams.log)
          c.in_ok-is_free.ensures)
          (answered-own [] served.answered c.args.call c.in_ok-reply.reply c.serve_on.new.node c.answer.new.self
          (L c.serve_on.new.streams.log) noted);
      last = subst (λ (x : SiteView). IsAnsweredLast served.answered one x.node.core.history) (sym noted.same)
          noted.last;
    }

pub returns-clause-one : goal.returns-clause-one
returns-clause-one g c =
    let noted = c.in_ok-reply.ensures in
    let one : Answer = record { call = c.args.call; reply = c.in_ok-reply.reply } in
    c.answered-served.ensures
    ∙ last-many c.args.served.now.answered one c.answer.new.self.site.node.core.history
    (subst (λ (x : SiteView). IsAnsweredLast c.args.served.now.answered one x.node.core.history) (sym noted.same)
    noted.last)
