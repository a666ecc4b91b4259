use Rattle.std.proofs.Common.{rules, ◌≤◌, ◌++◌, length, take, ap, subst, sym, ◌∙◌}
use Rattle.std.proofs.lemmas.List.{take_all}
use Rattle.ivy_logs.specs.Entries.{answer_in, answers_in}
use Rattle.ivy_logs.proofs.Entries.{flat-taken}
use Rattle.ivy_calls.specs.Answers.{answers}
use Rattle.ivy_moves.specs.Keeping.{keeps_history, read_of}
use Rattle.ivy_join.proofs.AnswersLogged.{taken-read, tells}
use Rattle.ivy_join.proofs.join_logs.are_told.Goals as goal

pub loop-entry-preserved : goal.loop-entry-preserved
loop-entry-preserved g c = record {
  within = c.in-Some.ensures.within;
  has = c.in-Some.ensures.has
      ∙ ap (λ l. l ++ answer_in c.entry-item.result) c.loop-entry.invariant.has
      ∙ sym (flat-taken answer_in c.args.entries.now c.loop-entry.entry-index c.entry-item.result
      (search rules) c.entry-item.is);
}

pub returns : goal.returns
returns g c = λ few.
    let all = c.args.site.now.node.core.history in
    let keeps = keeps_history c.args.site.now.keep in
    let past = c.loop-entry.place in
    let within : past ≤ length (read_of keeps all) =
    subst (λ l. past ≤ length l) c.history-history.ensures c.loop-entry.invariant.within in
    tells c.args.entries.now all past (search rules)
    (ap answers (sym (ap (take past) c.history-history.ensures ∙ taken-read keeps all past within))
    ∙ c.loop-entry.invariant.has
    ∙ ap answers_in (take_all c.loop-entry.entry-index c.args.entries.now (search rules)))
