-- Of five words they are the words of a call, and of more they are none.
use Rattle.std.proofs.Common.{◌≡◌, ◌≤◌, IfNone, arith, length, map, subst}
use Rattle.std.proofs.lemmas.List.{length-map}
use Rattle.ivy_model.specs.declared.Call.{Call}
use Rattle.ivy_model.specs.stated.Legal.{HasWidth}
use Rattle.ivy_program.proofs.reading.Lengths.{five_mapped}
use Rattle.ivy_texts.specs.Spelled.{SpellsCall}
use Rattle.ivy_texts.proofs.Calls.{call_counted}
use Rattle.ivy_texts.proofs.order.parse_call.Goals as goal

pub returns-in-len5-clause-none : goal.returns-in-len5-clause-none
returns-in-len5-clause-none c =
    let five : length c.args.words.now ≡ 5 =
    omega (arith, c.in-len5.len_at_least, c.in-len5.len_below) in
    subst (λ ws. IfNone c.parse_quaternary.result ((call : Call) → HasWidth call → SpellsCall ws call → ⊥))
    (five_mapped c.args.words.now (λ w. w.now) _ five) c.parse_quaternary.ensures.none

pub returns-in_default-2-clause-none : goal.returns-in_default-2-clause-none
returns-in_default-2-clause-none c call width h =
    let few : length (map (λ w. w.now) c.args.words.now) ≤ 5 = call_counted _ call h in
    absurd (omega (arith, few, length-map c.args.words.now (λ w. w.now), c.in_default.len_at_least))
