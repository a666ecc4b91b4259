use Rattle.std.proofs.Common.{rules, ◌≡◌, ◌∙◌, ◌-◌, length, sym}
use Rattle.std.specs.Prelude.{Some}
use Rattle.ivy_moves.specs.Keeping.{last_of}
use Rattle.ivy_join.proofs.Answered.{answered-last, same-answer}
use Rattle.ivy_join.proofs.restart.has_answer.Goals as goal

pub returns : goal.returns
returns g c =
    let history = c.args.site.now.node.core.history in
    let calls : c.in-Some.record.call ≡ c.args.answer.call = search rules in
    let replies : c.in-Some.record.reply ≡ c.args.answer.reply = search rules in
    let behind : length c.args.site.now.node.core.history - 1 ≡ c.args.told = search rules in
    let there : last_of c.args.site.now.node.core.history ≡ Some c.in-Some.record =
    sym c.last_record.ensures ∙ c.in-Some.is in
    λ free. answered-last c.args.told c.args.answer c.in-Some.record history there behind
    (same-answer c.in-Some.record c.args.answer calls replies)
