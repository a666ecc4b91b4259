-- The last part, and a line that changes it.
use Rattle.std.proofs.Common.{◌≡◌, ◌∙◌, ℕ, ◌-◌, ◌<◌, Bool, true, false, List, length, get_or, set, Option, Some, Result, Ok, Err, IfOk, slice_get, sym, ap, subst}
use Rattle.std.proofs.lemmas.Option.{slice_get-get_or}
use Rattle.std.proofs.lemmas.List.{set-get_or}
use Rattle.ivy_model.specs.declared.Fault.{Fault}
use Rattle.ivy_program.specs.declared.line.Action.{Action}
use Rattle.ivy_program.specs.declared.line.Line.TheVariants.{Label, Does}
use Rattle.ivy_program.specs.texts.ProgramParts.{Part, joined, label_last, labelled, lengthen_last, lengthened, label_place, put_last, last_part}
use Rattle.ivy_program.specs.texts.Readings.{Changes}

module _ (items old : List Part) (o : items ≡ old) (n : ℕ) (x y : Part) (e : n ≡ length items - 1)
    (l : n < length items) (h : x ≡ get_or items n x) where
  last_is : last_part old ≡ Some x
  last_is =
      ap last_part (sym o) ∙ ap (slice_get items) (sym e) ∙ slice_get-get_or items n x l
      ∙ ap Some (sym h)

  changed : (ok : Bool) (w : Option Part) → Changes ok x w y
      → Changes ok old (put_last old w) (set items n y)
  changed true w k =
      ap (put_last old) k
      ∙ ap (λ t. Some (set t (length t - 1) y)) (sym o)
      ∙ ap (λ m. Some (set items m y)) (sym e)
  changed false w k =
      (ap (put_last old) k.0, ap (set items n) k.1 ∙ ap (set items n) h ∙ set-get_or items n x ∙ o)

  -- the last part takes a label
  pub label_put : (name : List ℕ) (number : ℕ) (r : Result Bool Fault)
      → IfOk r (λ ok. Changes ok x (labelled x name (label_place x.labels name)) y)
      → IfOk r (λ ok. Changes ok old (joined old number (Some (Label name))) (set items n y))
  label_put name number (Ok ok) k =
      subst (λ w. Changes ok old (label_last old name w) (set items n y)) (sym last_is)
      (changed ok (labelled x name (label_place x.labels name)) k)
  label_put name number (Err f) k = tt

  -- the last part takes an instruction
  pub line_put : (action : Action) (number : ℕ) (r : Result Bool Fault)
      → IfOk r (λ ok. Changes ok x (lengthened x (record { number = number; action = action })) y)
      → IfOk r (λ ok. Changes ok old (joined old number (Some (Does action))) (set items n y))
  line_put action number (Ok ok) k =
      subst (λ w. Changes ok old (lengthen_last old (record { number = number; action = action }) w)
      (set items n y)) (sym last_is)
      (changed ok (lengthened x (record { number = number; action = action })) k)
  line_put action number (Err f) k = tt
