use Rattle.std.proofs.Common.{rules, ◌≡◌, length, map, IfNone, arith, subst}
use Rattle.std.proofs.lemmas.List.{length-map}
use Rattle.ivy_program.specs.declared.line.Action.{Action}
use Rattle.ivy_program.specs.texts.Lines.{SpellsAction}
use Rattle.ivy_program.proofs.reading.Lengths.{action_counted, five_mapped, six_mapped}
use Rattle.ivy_program.proofs.line.Action.read.Goals as goal

pub returns-in_default-clause-none : goal.returns-in_default-clause-none
returns-in_default-clause-none c a h =
    let same : length (map (λ w. w.now) c.args.words.now) ≡ length c.args.words.now =
    length-map c.args.words.now (λ w. w.now) in
    let counted = action_counted (map (λ w. w.now) c.args.words.now) a h in
    search rules

pub returns-in-len5-clause-none : goal.returns-in-len5-clause-none
returns-in-len5-clause-none c =
    let five : length c.args.words.now ≡ 5 =
    omega (arith, c.in-len5.len_at_least, c.in-len5.len_below) in
    subst (λ ws. IfNone c.parse_quaternary.result ((a : Action) → SpellsAction ws a → ⊥))
    (five_mapped c.args.words.now (λ w. w.now) _ five) c.parse_quaternary.ensures.none

pub returns-in-len6-clause-none : goal.returns-in-len6-clause-none
returns-in-len6-clause-none c =
    let six : length c.args.words.now ≡ 6 =
    omega (arith, c.in-len6.len_at_least, c.in-len6.len_below) in
    subst (λ ws. IfNone c.parse_quinary.result ((a : Action) → SpellsAction ws a → ⊥))
    (six_mapped c.args.words.now (λ w. w.now) _ six) c.parse_quinary.ensures.none
