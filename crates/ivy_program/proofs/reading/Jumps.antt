-- The places of labels, and jumps to names that a program does not have.
use Rattle.std.proofs.Common.{◌≡◌, ◌∙◌, ◌⊎◌, inl, inr, ⊎_elim, ℕ, List, [], ◌∷◌, ◌++◌, Option, Some, None, refl, sym, ap, subst, arith}
use Rattle.std.specs.List.{filter_map, cons_option}
use Rattle.std.proofs.lemmas.List.{append-nil}
use Rattle.std.proofs.lemmas.List.Elements.{filter_map-append, Contains-push, Contains-push_cases, Contains-append_left}
use Rattle.ivy_program.specs.declared.parser.Numbered.{Numbered}
use Rattle.ivy_program.specs.declared.instruction.Instruction.{Instruction}
use Rattle.ivy_program.specs.texts.Names.{Label}
use Rattle.ivy_program.specs.texts.ProgramParts.{Part}
use Rattle.ivy_program.specs.texts.Readings.{HasLost, IsLeastOrNone, IsLost, LosesIn, lesser, resolved}
use Rattle.ivy_program.proofs.reading.Least.{least_same, least_join}

module _ {X Y : Type 0} (f : X → Option Y) where
  pub filter_map-found : (xs : List X) (x : X) (y : Y) → f x ≡ Some y
      → filter_map f (xs ++ x ∷ []) ≡ filter_map f xs ++ y ∷ []
  filter_map-found xs x y h =
      filter_map-append f xs (x ∷ []) ∙ ap (λ o. filter_map f xs ++ cons_option o []) h

  pub filter_map-none : (xs : List X) (x : X) → f x ≡ None
      → filter_map f (xs ++ x ∷ []) ≡ filter_map f xs
  filter_map-none xs x h =
      filter_map-append f xs (x ∷ []) ∙ ap (λ o. filter_map f xs ++ cons_option o []) h
      ∙ append-nil (filter_map f xs)

module _ (labels : List Label) (xs : List Numbered) (x : Numbered) where
  grown : (m : ℕ) → LosesIn labels xs m → LosesIn labels (xs ++ x ∷ []) m
  grown m h = (h.0, Contains-append_left xs (x ∷ []) h.0 h.1, h.2, h.3)

  -- one more line that loses its jump
  pub lost_more : (o : Option ℕ) → IsLeastOrNone (LosesIn labels xs) o
      → resolved labels x.action ≡ None
      → IsLeastOrNone (LosesIn labels (xs ++ x ∷ [])) (Some (lesser o x.number))
  lost_more o h e =
      least_join (LosesIn labels xs) (λ m. m ≡ x.number) (LosesIn labels (xs ++ x ∷ [])) x.number
      refl
      (λ m k. omega arith)
      (λ m k. ⊎_elim (λ a. inl (k.0, a, k.2, k.3)) (λ b. inr (sym k.2 ∙ ap (λ y. y.number) (sym b)))
      (Contains-push_cases xs x k.0 k.1))
      grown
      (λ m k. (x, Contains-push xs x, sym k, e))
      o h

  -- one more that does not
  pub lost_same : (o : Option ℕ) (i : Instruction) → IsLeastOrNone (LosesIn labels xs) o
      → resolved labels x.action ≡ Some i
      → IsLeastOrNone (LosesIn labels (xs ++ x ∷ [])) o
  lost_same o i h e =
      least_same (LosesIn labels xs) (LosesIn labels (xs ++ x ∷ [])) o h grown
      (λ m k. ⊎_elim (λ a. (k.0, a, k.2, k.3))
      (λ b. let q : resolved labels x.action ≡ None =
      ap (λ y. resolved labels y.action) b ∙ k.3 in absurd (cc))
      (Contains-push_cases xs x k.0 k.1))

module _ (ps : List Part) (p : Part) where
  kept : (m : ℕ) → IsLost ps m → IsLost (ps ++ p ∷ []) m
  kept m h = (h.0, Contains-append_left ps (p ∷ []) h.0 h.1, h.2)

  parted : (m : ℕ) → IsLost (ps ++ p ∷ []) m → IsLost ps m ⊎ HasLost p m
  parted m h =
      ⊎_elim (λ a. inl (h.0, a, h.2)) (λ b. inr (subst (λ q. HasLost q m) (sym b) h.2))
      (Contains-push_cases ps p h.0 h.1)

  module _ (O : ℕ → Type 0) (o : Option ℕ) (h : IsLeastOrNone (λ n. O n ⊎ IsLost ps n) o) where
    -- one more part that loses a jump
    pub part_lost : (n : ℕ) → IsLeastOrNone (HasLost p) (Some n)
        → IsLeastOrNone (λ n. O n ⊎ IsLost (ps ++ p ∷ []) n) (Some (lesser o n))
    part_lost n k =
        least_join (λ n. O n ⊎ IsLost ps n) (HasLost p) (λ n. O n ⊎ IsLost (ps ++ p ∷ []) n) n k.0
        k.1
        (λ m q. ⊎_elim (λ a. inl (inl a)) (λ b. ⊎_elim (λ c. inl (inr c)) (λ d. inr d) (parted m b))
        q)
        (λ m q. ⊎_elim (λ a. inl a) (λ b. inr (kept m b)) q)
        (λ m q. inr (p, Contains-push ps p, q))
        o h

    -- one more that does not
    pub part_same : ((n : ℕ) → ¬ HasLost p n) → IsLeastOrNone (λ n. O n ⊎ IsLost (ps ++ p ∷ []) n) o
    part_same k =
        least_same (λ n. O n ⊎ IsLost ps n) (λ n. O n ⊎ IsLost (ps ++ p ∷ []) n) o h
        (λ m q. ⊎_elim (λ a. inl a) (λ b. inr (kept m b)) q)
        (λ m q. ⊎_elim (λ a. inl a) (λ b. ⊎_elim (λ c. inr c) (λ d. absurd (k m d)) (parted m b)) q)
