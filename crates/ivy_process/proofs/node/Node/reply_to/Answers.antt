use Rattle.std.proofs.Common.{rules, ◌≡◌, ◌∙◌, ◌-◌, length, ap, sym, subst}
use Rattle.std.specs.Prelude.{Some}
use Rattle.ivy_model.specs.declared.Call.{Call}
use Rattle.ivy_moves.specs.Keeping.{last_of}
use Rattle.ivy_calls.specs.declared.Answer.{Answer}
use Rattle.ivy_join.specs.Remade.{IsAnsweredLast}
use Rattle.ivy_join.proofs.Answered.{answered-last}
use Rattle.ivy_process.specs.NodeLogs.{Served}
use Rattle.ivy_process.proofs.node.Node.reply_to.Goals as goal

pub returns : goal.returns
returns c =
    let history = c.self.inside.site.node.core.history in
    let calls : c.in-Some.record.call ≡ c.args.call = search rules in
    let behind : length c.self.inside.site.node.core.history - 1 ≡ c.args.told = search rules in
    let there : last_of c.self.inside.site.node.core.history ≡ Some c.in-Some.record =
    sym c.last_record.ensures ∙ c.in-Some.is in
    let one : Answer = record { call = c.args.call; reply = c.in-Some.record.reply } in
    let last : IsAnsweredLast c.args.told one c.self.inside.site.node.core.history =
    answered-last c.args.told one c.in-Some.record history there behind
    (ap {B = Answer} (λ (k : Call). record { call = k; reply = c.in-Some.record.reply }) calls) in
    subst (λ (x : Served). IsAnsweredLast c.args.told one x.site.node.core.history) c.self.view_is last
