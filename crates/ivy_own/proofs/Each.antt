-- What holds of each element by its number.
use Rattle.std.proofs.Common.{◌≡◌, ℕ, zero, suc, ◌+◌, ◌<◌, List, [], ◌∷◌, ◌++◌, length, slice_get, replicate, Some, refl, sym, subst, ◌∙◌, ap, arith}
use Rattle.std.proofs.lemmas.Option.{same_Some, none-some, slice_get_within}
use Rattle.ivy_calls.specs.declared.answer.Answer.{Answer}
use Rattle.ivy_calls.specs.Answers.{answers}
use Rattle.ivy_seating.specs.Reports.{NodeReport}
use Rattle.ivy_own.specs.Ended.{AreClosed}

-- and of one more
pub push_each : {X : Type 0} (P : ℕ → X → Type 0) (xs : List X) (x : X)
    → ((i : ℕ) (y : X) → slice_get xs i ≡ Some y → P i y) → P (length xs) x → (i : ℕ) (y : X)
    → slice_get (xs ++ x ∷ []) i ≡ Some y → P i y
push_each P [] x all last zero y at = subst (P 0) (same_Some x y at) last
push_each P [] x all last (suc i) y at = absurd (none-some y at)
push_each P (z ∷ xs) x all last zero y at = all 0 y at
push_each P (z ∷ xs) x all last (suc i) y at =
    push_each (λ k. P (suc k)) xs x (λ k. all (suc k)) last i y at

pub empty : {X : Type 0} (xs : List X) → length xs ≡ 0 → xs ≡ []
empty [] none = refl
empty (x ∷ xs) none = absurd (omega (arith, none))

module _ {X : Type 0} (P : ℕ → X → Type 0) where
  -- of none
  pub none_got : (xs : List X) → xs ≡ [] → (i : ℕ) (y : X) → slice_get xs i ≡ Some y → P i y
  none_got xs none i y at = absurd (none-some y (ap (λ l. slice_get l i) (sym none) ∙ at))

  -- and of one more
  pub got_more : (n : ℕ) (xs more : List X) (x : X) → n ≡ length xs → more ≡ xs ++ x ∷ []
      → ((i : ℕ) (y : X) → slice_get xs i ≡ Some y → P i y) → P n x → (i : ℕ) (y : X)
      → slice_get more i ≡ Some y → P i y
  got_more n xs more x count is all last i y at =
      push_each P xs x all (subst (λ m. P m x) count last) i y
      (subst (λ l. slice_get l i ≡ Some y) is at)

  -- of those that are left, from number n on
  pub left_all : (n : ℕ) (xs all : List X) → n ≡ 0 → xs ≡ all
      → ((k : ℕ) (y : X) → slice_get all k ≡ Some y → P k y) → (k : ℕ) (y : X)
      → slice_get xs k ≡ Some y → P (n + k) y
  left_all n xs all none is each k y at =
      subst (λ m. P m y) (omega (arith, none))
      (each k y (subst (λ l. slice_get l k ≡ Some y) is at))

  pub left_first : (n : ℕ) (x : X) (xs rest : List X) → xs ≡ x ∷ rest
      → ((k : ℕ) (y : X) → slice_get xs k ≡ Some y → P (n + k) y) → P n x
  left_first n x xs rest is each =
      subst (λ m. P m x) (omega arith) (each 0 x (ap (λ l. slice_get l 0) is))

  pub left_more : (n more : ℕ) (x : X) (xs rest : List X) → xs ≡ x ∷ rest → more ≡ n + 1
      → ((k : ℕ) (y : X) → slice_get xs k ≡ Some y → P (n + k) y) → (k : ℕ) (y : X)
      → slice_get rest k ≡ Some y → P (more + k) y
  left_more n more x xs rest is next each k y at =
      subst (λ m. P m y) (omega (arith, next))
      (each (suc k) y (ap (λ l. slice_get l (suc k)) is ∙ at))

-- the last one
pub got_last : {X : Type 0} (xs : List X) (x : X) → slice_get (xs ++ x ∷ []) (length xs) ≡ Some x
got_last [] x = refl
got_last (y ∷ xs) x = got_last xs x

-- one before the last
pub got_before : {X : Type 0} (xs ys : List X) (i : ℕ) → i < length xs
    → slice_get (xs ++ ys) i ≡ slice_get xs i
got_before [] ys i lt = absurd (omega (arith, lt))
got_before (x ∷ xs) ys zero lt = refl
got_before (x ∷ xs) ys (suc i) lt = got_before xs ys i (omega (arith, lt))

pub get_replicate : {X : Type 0} (n i : ℕ) (x : X) → i < n → slice_get (replicate n x) i ≡ Some x
get_replicate zero i x lt = absurd (omega (arith, lt))
get_replicate (suc n) zero x lt = refl
get_replicate (suc n) (suc i) x lt = get_replicate n i x (omega (arith, lt))

-- one node more is closed
pub closed_more : {T : Type 0} (Done : ℕ → List Answer → T → Type 0) (nodes : List NodeReport)
    (outs : List T) (n : NodeReport) (out : T) → length nodes ≡ length outs
    → AreClosed Done nodes outs → Done (length nodes) (answers n.history) out
    → AreClosed Done (nodes ++ n ∷ []) (outs ++ out ∷ [])
closed_more {T} Done nodes outs n out same closed done i m o at there =
    push_each
    (λ (j : ℕ) (x : NodeReport). (y : T) → slice_get (outs ++ out ∷ []) j ≡ Some y
    → Done j (answers x.history) y)
    nodes n
    (λ j x here y its.
    let lt = slice_get_within nodes j x here in
    closed j x y here (sym (got_before outs (out ∷ []) j (omega (arith, lt, same))) ∙ its))
    (λ y its.
    let last : slice_get (outs ++ out ∷ []) (length nodes) ≡ Some out =
    ap (slice_get (outs ++ out ∷ [])) same ∙ got_last outs out in
    subst (Done (length nodes) (answers n.history)) (same_Some out y (sym last ∙ its)) done)
    i m at o there
