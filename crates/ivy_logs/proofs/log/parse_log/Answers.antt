use Rattle.std.proofs.Common.{rules, ◌≡◌, inl, inr, refl, subst, sym}
use Rattle.std.proofs.lemmas.Result.{err_from_is_err_and}
use Rattle.std.specs.Str.Lines.{lines}
use Rattle.std.specs.List.{before_first, after_first}
use Rattle.ivy_program.specs.texts.TextWords.{words_of}
use Rattle.ivy_logs.specs.declared.log.LogHead.{LogHead}
use Rattle.ivy_logs.specs.Faults.{IsFaultAmong, IsHead}
use Rattle.ivy_logs.specs.Spelled.{HasWholeLines, SpellsHead, is_end}
use Rattle.ivy_logs.proofs.Faulty.{none-of}
use Rattle.ivy_logs.proofs.Wholes.{log-spelled}
use Rattle.ivy_logs.proofs.log.parse_log.Goals as goal

pub returns-clause-log : goal.returns-clause-log
returns-clause-log g c =
    let first : c.in-Some.first.now ≡ before_first is_end c.args.text.now = search rules in
    let rest : c.in-Some.rest.now ≡ after_first is_end c.args.text.now = search rules in
    log-spelled c.args.kind c.args.text.now c.in-Some.first.now c.in-Some.rest.now c.whole_lines.result.now
    c.in-Some-head_of.said.head c.in_ok-entries.entries.items first rest
    (c.in-Some-head_of.said.sum, c.in-Some-head_of.ensures.spelled) c.whole_lines.ensures c.in_ok-entries.ensures.entries

pub returns-in_err-entries-clause-refused : goal.returns-in_err-entries-clause-refused
returns-in_err-entries-clause-refused g c =
    let rest : c.in-Some.rest.now ≡ after_first is_end c.args.text.now = search rules in
    let p = err_from_is_err_and c.from_residual.result c.from_residual.ensures.1 in
    rw p.1 (inr (
      c.whole_lines.result.now,
      subst (λ l. HasWholeLines l c.whole_lines.result.now) rest c.whole_lines.ensures,
      subst (IsFaultAmong c.args.kind (lines c.whole_lines.result.now)) (sym p.2) c.in_err-entries.ensures.refused,
    ))

pub returns-in_default-head_of-clause-refused : goal.returns-in_default-head_of-clause-refused
returns-in_default-head_of-clause-refused g c =
    let first : c.in-Some.first.now ≡ before_first is_end c.args.text.now = search rules in
    let none : (h : LogHead) → IsHead h → SpellsHead c.args.kind (words_of c.in-Some.first.now) h → ⊥ =
    none-of c.head_of.result _ c.in_default-head_of.is c.head_of.ensures.none in
    inl (
      refl,
      inr (subst (λ l. (h : LogHead) → IsHead h → SpellsHead c.args.kind (words_of l) h → ⊥) first none),
    )
