use Rattle.std.proofs.Common.{◌≡◌, ◌+◌, List, [], ◌∷◌, ◌++◌, map, take, get_or, length, ◌<◌, ℕ, sym, ap, ◌∙◌}
use Rattle.std.proofs.lemmas.List.{take_more, map-append}
use Rattle.ivy_play.specs.declared.report.Outcome.{Outcome}
use Rattle.ivy_play.specs.declared.report.Outcome.TheVariants.{Gave}
use Rattle.ivy_play.specs.Reports.{AllGave}
use Rattle.ivy_play.proofs.report.all_gave.Goals as goal

-- one more work has ended
gave_more : {Out : Type 0} (outcomes : List (Outcome Out)) (i : ℕ) (outcome : Outcome Out) (out : Out)
    → i < length outcomes → outcome ≡ get_or outcomes i outcome → outcome ≡ Gave out
    → AllGave (take i outcomes) → AllGave (take (i + 1) outcomes)
gave_more {Out} outcomes i outcome out within at gave was =
    let next : get_or outcomes i outcome ≡ Gave out = sym at ∙ gave in
    let longer : take (i + 1) outcomes ≡ map (λ (o : Out). Gave o) was.0 ++ Gave out ∷ [] =
    take_more outcomes i outcome within ∙ ap (λ l. l ++ get_or outcomes i outcome ∷ []) was.1
    ∙ ap (λ (o : Outcome Out). map (λ (x : Out). Gave x) was.0 ++ o ∷ []) next in
    (was.0 ++ out ∷ [], longer ∙ sym (map-append (λ (o : Out). Gave o) was.0 (out ∷ [])))

pub loop-outcome-preserved : goal.loop-outcome-preserved
loop-outcome-preserved g c =
    gave_more c.args.outcomes.now c.loop-outcome.outcome-index c.outcome-item.result
    c.in-Gave.field-0 c.loop-outcome-test.true c.outcome-item.is c.in-Gave.is
    c.loop-outcome.invariant
