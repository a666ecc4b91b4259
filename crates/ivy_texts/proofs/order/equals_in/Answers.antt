-- The word at that place has the byte of an equals sign, and no other.
use Rattle.std.proofs.Common.{◌∙◌, Some, ap}
use Rattle.std.specs.Cmp.Lexicographic.{same_text}
use Rattle.std.specs.Option.{option_map}
use Rattle.std.proofs.lemmas.Option.{slice_get-get_or, slice_get-map}
use Rattle.ivy_texts.proofs.order.equals_in.Goals as goal

pub returns-then-eq : goal.returns-then-eq
returns-then-eq c =
    slice_get-map (λ w. w.now) c.args.words.now c.loop-at.at
    ∙ ap (option_map (λ w. w.now))
    (slice_get-get_or c.args.words.now c.loop-at.at _ c.loop-at-test.true)
    ∙ ap Some (same_text _ _ c.if-eq.ensures)
