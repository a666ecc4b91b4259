-- Lists of which a run of items was replaced by one.
use Rattle.std.proofs.Common.{◌≡◌, ℕ, ◌+◌, ◌-◌, ◌<◌, ◌≤◌, inl, inr, get_or, List, ◌∷◌, ◌++◌, length, take, drop, sym, ap, ◌∙◌, subst, arith}
use Rattle.std.specs.List.{All, AllPairs}
use Rattle.std.proofs.lemmas.Bool.{cases_order}
use Rattle.std.proofs.lemmas.List.{places, length-append, length-take-le, length-drop, get_or_append_left, get_or-take, get_or_at}

module _ {X : Type 0} where
  -- the list with one item in the place of those from p to q
  abbrev pub spliced : List X → ℕ → ℕ → X → List X
  spliced xs p q x = take p xs ++ x ∷ drop q xs

  pub length-spliced : (xs : List X) (p q : ℕ) (x : X) → p ≤ q → q ≤ length xs
      → length (spliced xs p q x) + q ≡ length xs + p + 1
  length-spliced xs p q x le l =
      omega (
        arith,
        length-append (take p xs) (x ∷ drop q xs),
        length-take-le p xs (omega (arith, le, l)),
        length-drop q xs,
      )

  pub get_or-spliced_before : (xs : List X) (p q : ℕ) (x : X) (k : ℕ) (d : X) → k < p
      → p ≤ length xs → get_or (spliced xs p q x) k d ≡ get_or xs k d
  get_or-spliced_before xs p q x k d lt l =
      get_or_append_left (take p xs) (x ∷ drop q xs) d k (omega (arith, lt, length-take-le p xs l))
      ∙ get_or-take p xs k d lt

  pub get_or-spliced_at : (xs : List X) (p q : ℕ) (x d : X) → p ≤ length xs
      → get_or (spliced xs p q x) p d ≡ x
  get_or-spliced_at xs p q x d l = get_or_at (take p xs) x (drop q xs) d p (length-take-le p xs l)

  pub get_or-spliced_after : (xs : List X) (p q : ℕ) (x : X) (k : ℕ) (d : X) → p ≤ length xs
      → get_or (spliced xs p q x) (p + 1 + k) d ≡ get_or xs (q + k) d
  get_or-spliced_after xs p q x k d l = grind (arith, places, length-take-le p xs l)

  -- what holds at each place of the list, by where the item comes from
  pub at_spliced : (P : X → Type 0) (xs : List X) (p q : ℕ) (x : X) (k : ℕ) (d : X) → p ≤ q
      → q ≤ length xs → k < length (spliced xs p q x)
      → (k < p → P (get_or xs k d)) → (k ≡ p → P x)
      → ((j : ℕ) → p < k → j + p + 1 ≡ k + q → q ≤ j → j < length xs → P (get_or xs j d))
      → P (get_or (spliced xs p q x) k d)
  at_spliced P xs p q x k d le l lt before same after =
      elim (cases_order k p) [
        | inl e ↦
            subst P (sym
            (ap (λ i. get_or (spliced xs p q x) i d) e
            ∙ get_or-spliced_at xs p q x d (omega arith))) (same e)
        | inr other ↦ elim other [
          | inl b ↦ subst P (sym (get_or-spliced_before xs p q x k d b (omega arith))) (before b)
          | inr a ↦
              let place : p + 1 + (k - p - 1) ≡ k = omega (arith, a) in
              subst P (sym
              (ap (λ i. get_or (spliced xs p q x) i d) (sym place)
              ∙ get_or-spliced_after xs p q x (k - p - 1) d (omega arith)))
              (after (q + (k - p - 1)) a (omega (arith, a)) (omega arith)
              (omega (arith, a, lt, length-spliced xs p q x le l)))
        ]
      ]

  pub All-spliced : (P : X → Type 0) (xs : List X) (p q : ℕ) (x : X) → p ≤ q → q ≤ length xs
      → All P xs → P x → All P (spliced xs p q x)
  All-spliced P xs p q x le l all here k d lt =
      at_spliced P xs p q x k d le l lt (λ b. all k d (omega arith)) (λ e. here)
      (λ j a e f t. all j d t)

  pub AllPairs-spliced : (R : X → X → Type 0) (xs : List X) (p q : ℕ) (x : X) → p ≤ q
      → q ≤ length xs → AllPairs R xs
      → ((k : ℕ) (d : X) → k < p → R (get_or xs k d) x)
      → ((k : ℕ) (d : X) → q ≤ k → k < length xs → R x (get_or xs k d))
      → AllPairs R (spliced xs p q x)
  AllPairs-spliced R xs p q x le l all before after i j d lt in' =
      at_spliced (λ z. R (get_or (spliced xs p q x) i d) z) xs p q x j d le l in'
      (λ b. subst (λ z. R z (get_or xs j d))
      (sym (get_or-spliced_before xs p q x i d (omega arith) (omega arith)))
      (all i j d lt (omega arith)))
      (λ e. subst (λ z. R z x)
      (sym (get_or-spliced_before xs p q x i d (omega arith) (omega arith)))
      (before i d (omega arith)))
      (λ j' a e f t. at_spliced (λ z. R z (get_or xs j' d)) xs p q x i d le l (omega arith)
      (λ b. all i j' d (omega arith) t)
      (λ same. after j' d f t)
      (λ i' a' e' f' t'. all i' j' d (omega arith) t))
