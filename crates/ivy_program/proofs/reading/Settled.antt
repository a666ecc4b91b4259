-- A line is at fault whatever the lines after those that were read say, where each jump has found
-- its label.
use Rattle.std.proofs.Common.{◌≡◌, ◌∙◌, ◌⊎◌, inl, inr, ⊎_elim, ℕ, ◌+◌, ◌-◌, ◌<◌, ◌≤◌, Bool, true}
use Rattle.std.proofs.Common.{false, cond, List, [], ◌∷◌, ◌++◌, Option, Some, None, is_some, length}
use Rattle.std.proofs.Common.{get_or, set, unwrap_or, refl, sym, ap, subst, arith}
use Rattle.std.specs.List.{Contains, list_all}
use Rattle.std.proofs.lemmas.Bool.{cases_eq, cases_lt}
use Rattle.std.proofs.lemmas.List.{length-set, get_or-set_same, get_or-set_other}
use Rattle.std.proofs.lemmas.List.Elements.{Contains-push_cases}
use Rattle.std.proofs.lemmas.List.Folds.{list_all_at}
use Rattle.std.proofs.lemmas.Option.{slice_get_within, get_or_from_slice_get}
use Rattle.ivy_model.specs.declared.Fault.{Fault}
use Rattle.ivy_program.specs.declared.line.Action.{Action}
use Rattle.ivy_program.specs.declared.line.Action.TheVariants as action
use Rattle.ivy_program.specs.declared.line.Line.{Line}
use Rattle.ivy_program.specs.declared.line.Line.TheVariants as line
use Rattle.ivy_program.specs.declared.parser.Numbered.{Numbered}
use Rattle.ivy_program.specs.texts.Names.{Label, same_name}
use Rattle.ivy_program.specs.texts.ProgramParts.{Part, joined, label_last, labelled, last_part, lengthen_last, label_place, put_last, with_last}
use Rattle.ivy_program.specs.texts.Readings.{HasLost, IsAtFault, IsLost, IsReadAs, finds_all, jump_to, jump_if_zero_to, parts_from, text_parts, resolved}
use Rattle.ivy_program.specs.texts.Texts.{IsFaultOf}
use Rattle.ivy_program.proofs.reading.Orders.{out_before, out_within, parts_front}

-- all pass, so each does
passes : {X : Type 0} (p : X → Bool) (xs : List X) (x : X) → list_all p xs ≡ true → Contains xs x
    → p x ≡ true
passes p xs x all at = by (p x) refl
  where
    by : (b : Bool) → p x ≡ b → b ≡ true
    by true e = refl
    by false e =
        let fails : list_all p xs ≡ false = list_all_at p xs at.0 x at.1 (ap p at.2 ∙ e) in
        absurd (cc)

found : {X : Type 0} (o : Option X) → is_some o ≡ true → o ≡ None → ⊥
found None h e = absurd (cc h)
found (Some x) h e = absurd (cc e)

-- where each jump finds its label, none is lost
pub none_lost : (parts : List Part) → list_all finds_all parts ≡ true → (n : ℕ) → ¬ IsLost parts n
none_lost parts all n lost =
    let whole : finds_all lost.0 ≡ true = passes finds_all parts lost.0 all lost.1 in
    found (resolved lost.0.labels lost.2.0.action)
    (passes (λ l. is_some (resolved lost.0.labels l.action)) lost.0.lines lost.2.0 whole lost.2.1)
    lost.2.3

-- a name that more labels don't have
unnamed : (labels : List Label) (label : Label) (name : List ℕ)
    → label_place (labels ++ label ∷ []) name ≡ None → label_place labels name ≡ None
unnamed [] label name h = refl
unnamed (l ∷ labels) label name h = by (same_name name l.0) (unnamed labels label name) h
  where
    by : (b : Bool)
        → (label_place (labels ++ label ∷ []) name ≡ None → label_place labels name ≡ None)
        → cond b (Some l.1) (label_place (labels ++ label ∷ []) name) ≡ None
        → cond b (Some l.1) (label_place labels name) ≡ None
    by true rest e = absurd (cc e)
    by false rest e = rest e

no_jump : (o : Option ℕ) → jump_to o ≡ None → o ≡ None
no_jump None h = refl
no_jump (Some n) h = absurd (cc h)

no_jump_if : (r : ℕ) (o : Option ℕ) → jump_if_zero_to r o ≡ None → o ≡ None
no_jump_if r None h = refl
no_jump_if r (Some n) h = absurd (cc h)

unresolved : (labels : List Label) (label : Label) (a : Action)
    → resolved (labels ++ label ∷ []) a ≡ None → resolved labels a ≡ None
unresolved labels label (action.Plain i) h = absurd (cc h)
unresolved labels label (action.Jump name) h =
    ap jump_to (unnamed labels label name (no_jump (label_place (labels ++ label ∷ []) name) h))
unresolved labels label (action.JumpIfZero r name) h =
    ap (jump_if_zero_to r)
    (unnamed labels label name (no_jump_if r (label_place (labels ++ label ∷ []) name) h))

-- one element is another
changed_cases : {X : Type 0} (xs : List X) (k : ℕ) (y x : X) → k < length xs
    → Contains (set xs k y) x → (y ≡ x) ⊎ Contains xs x
changed_cases xs k y x within at =
    let inside : at.0 < length xs = omega (arith, at.1, length-set xs k y) in
    ⊎_elim
    (λ e. inl
    (sym (get_or-set_same xs k y x within) ∙ ap (λ i. get_or (set xs k y) i x) (sym e) ∙ at.2))
    (λ n. inr (at.0, inside, sym (get_or-set_other xs k at.0 y x n) ∙ at.2))
    (cases_eq at.0 k)

module _ (parts : List Part) (n : ℕ) where
  -- the last part changes, and loses no jump that it had not lost
  last_lost : (old new : Part) → last_part parts ≡ Some old → (HasLost new n → HasLost old n)
      → IsLost (with_last parts new) n → IsLost parts n
  last_lost old new here back lost =
      let within : length parts - 1 < length parts =
      slice_get_within parts (length parts - 1) old here in
      ⊎_elim
      (λ e. (
        old,
        (length parts - 1, within, get_or_from_slice_get parts (length parts - 1) old old here),
        back (subst (λ p. HasLost p n) (sym e) lost.2),
      ))
      (λ at. (lost.0, at, lost.2))
      (changed_cases parts (length parts - 1) new lost.0 within lost.1)

  labelled_lost : (old : Part) (name : List ℕ) (o : Option ℕ) (after : List Part)
      → last_part parts ≡ Some old
      → put_last parts (labelled old name o) ≡ Some after → IsLost after n → IsLost parts n
  labelled_lost old name (Some place) after here h lost = absurd (cc h)
  labelled_lost old name None after here h lost =
      let new : Part =
      record { lines = old.lines; labels = old.labels ++ (name, length old.lines) ∷ [] } in
      let same : with_last parts new ≡ after = cc h in
      last_lost old new here
      (λ l. (l.0, l.1, l.2, unresolved old.labels (name, length old.lines) l.0.action l.3))
      (subst (λ ps. IsLost ps n) (sym same) lost)

  lengthened_lost : (old : Part) (added : Numbered) (b : Bool) (after : List Part)
      → n < added.number → last_part parts ≡ Some old
      → put_last parts
      (cond b (Some (record { lines = old.lines ++ added ∷ []; labels = old.labels })) None)
      ≡ Some after
      → IsLost after n → IsLost parts n
  lengthened_lost old added false after low here h lost = absurd (cc h)
  lengthened_lost old added true after low here h lost =
      let new : Part = record { lines = old.lines ++ added ∷ []; labels = old.labels } in
      let same : with_last parts new ≡ after = cc h in
      last_lost old new here
      (λ l. ⊎_elim
      (λ before. (l.0, before, l.2, l.3))
      (λ e. let number : added.number ≡ n = ap (λ x. x.number) e ∙ l.2 in
      absurd (omega (arith, low, number)))
      (Contains-push_cases old.lines added l.0 l.1))
      (subst (λ ps. IsLost ps n) (sym same) lost)

  started_lost : (b : Bool) (after : List Part)
      → cond b (Some (parts ++ (record { lines = []; labels = [] }) ∷ [])) None ≡ Some after
      → IsLost after n → IsLost parts n
  started_lost false after h lost = absurd (cc h)
  started_lost true after h lost =
      let first : Part = record { lines = []; labels = [] } in
      let same : parts ++ first ∷ [] ≡ after = cc h in
      let at : IsLost (parts ++ first ∷ []) n = subst (λ ps. IsLost ps n) (sym same) lost in
      ⊎_elim
      (λ before. (at.0, before, at.2))
      (λ e. let none : HasLost first n = subst (λ p. HasLost p n) (sym e) at.2 in
      absurd (omega (arith, none.1.1)))
      (Contains-push_cases parts first at.0 at.1)

  label_lost : (name : List ℕ) (o : Option Part) (after : List Part) → last_part parts ≡ o
      → label_last parts name o ≡ Some after
      → IsLost after n → IsLost parts n
  label_lost name None after here h lost = absurd (cc h)
  label_lost name (Some old) after here h lost =
      labelled_lost old name (label_place old.labels name) after here h lost

  line_lost : (added : Numbered) (o : Option Part) (after : List Part) → n < added.number
      → last_part parts ≡ o → lengthen_last parts added o ≡ Some after
      → IsLost after n → IsLost parts n
  line_lost added None after low here h lost = absurd (cc h)
  line_lost added (Some old) after low here h lost =
      lengthened_lost old added _ after low here h lost

  -- a line that joins loses no jump of a line before it
  joined_lost : (number : ℕ) (l : Option Line) (after : List Part) → n < number
      → joined parts number l ≡ Some after → IsLost after n → IsLost parts n
  joined_lost number None after low h lost = absurd (cc h)
  joined_lost number (Some line.Blank) after low h lost =
      let same : parts ≡ after = cc h in
      subst (λ ps. IsLost ps n) (sym same) lost
  joined_lost number (Some (line.Node node)) after low h lost = started_lost _ after h lost
  joined_lost number (Some (line.Label name)) after low h lost =
      label_lost name (last_part parts) after refl h lost
  joined_lost number (Some (line.Does a)) after low h lost =
      line_lost (record { number = number; action = a }) (last_part parts) after low refl h lost

next_lost : (parts : List Part) (n number : ℕ) (l : Option Line) (o : Option (List Part))
    → joined parts number l ≡ o → n < number
    → IsLost (unwrap_or o parts) n → IsLost parts n
next_lost parts n number l None e low lost = lost
next_lost parts n number l (Some after) e low lost = joined_lost parts n number l after low e lost

-- nor do all lines after it
pub later_lost : (rest : List (Option Line)) (parts : List Part) (n number : ℕ) → n < number
    → IsLost (parts_from parts number rest) n → IsLost parts n
later_lost [] parts n number low lost = lost
later_lost (l ∷ rest) parts n number low lost =
    next_lost parts n number l (joined parts number l) refl low
    (later_lost rest (unwrap_or (joined parts number l) parts) n (number + 1) (omega (arith, low))
    lost)

module _ (read : List (Option Line)) (parts : List Part) (first : Option ℕ)
    (r : IsReadAs read parts first)
    (all : list_all finds_all parts ≡ true) (rest : List (Option Line)) where
  none_at : (n : ℕ) → ¬ IsLost (text_parts read) n
  none_at n lost = none_lost parts all n (subst (λ ps. IsLost ps n) (sym r.0) lost)

  -- the line of a number is at fault among all lines where it is among those that were read
  none_later : (n : ℕ) → n ≤ length read → ¬ IsLost (text_parts (read ++ rest)) n
  none_later n low lost =
      none_at n (later_lost rest (text_parts read) n (1 + length read) (omega (arith, low))
      (subst (λ ps. IsLost ps n) (parts_front [] 1 (1 + length read) read rest refl) lost))

  at_fault_before : (n : ℕ) → IsAtFault read n → IsAtFault (read ++ rest) n × (n ≤ length read)
  at_fault_before n fault = ⊎_elim
      (λ out. (
        inl (out_before read rest n out),
        omega (arith, out.1, slice_get_within read out.0 out.2 out.3),
      ))
      (λ lost. absurd (none_at n lost))
      fault

  least_before : (k m : ℕ) → ((n : ℕ) → IsAtFault read n → k ≤ n) → k ≤ length read
      → IsAtFault (read ++ rest) m → k ≤ m
  least_before k m low within fault = ⊎_elim
      (λ past. omega (arith, past, within))
      (λ here. ⊎_elim
      (λ out. low m (inl (out_within read rest m here out)))
      (λ lost. absurd (none_later m here lost))
      fault)
      (cases_lt (length read) m)

  -- the fault of those that were read is that of all
  pub settled : (f : Fault) → IsFaultOf read f → IsFaultOf (read ++ rest) f
  settled f fault = ⊎_elim
      (λ e. inl e)
      (λ k. let at : IsAtFault (read ++ rest) k.0 × (k.0 ≤ length read) =
      at_fault_before k.0 k.2.0 in
      inr (k.0, k.1, (at.0, λ m q. least_before k.0 m k.2.1 at.1 q), k.3))
      fault
