-- Numbers of all nodes below a number, and a bound on their sum: a number each, of which something
-- is known. Where one of them becomes less, and no other one more, so does the bound.
use Rattle.std.proofs.Common.{◌<◌, ◌≤◌, ◌+◌, ◌*◌, ℕ, zero, suc, subst, sym, inl, inr, arith}
use Rattle.std.proofs.lemmas.Bool.{cases_eq}

-- the numbers of the nodes below `k` are such, and their sum is no greater than `r`
abbrev pub AreCounted : (ℕ → ℕ → Type 0) → ℕ → ℕ → Type 0
AreCounted Has zero r = Unit {0}
AreCounted Has (suc k) r =
    (w : ℕ) × (rest : ℕ) × Has k w × AreCounted Has k rest × (w + rest ≤ r)

-- each node has this number
pub counted_all : (Has : ℕ → ℕ → Type 0) (w : ℕ) → ((x : ℕ) → Has x w) → (k : ℕ)
    → AreCounted Has k (w * k)
counted_all Has w each zero = tt
counted_all Has w each (suc k) =
    (w, w * k, each k, counted_all Has w each k, omega arith)

module _ (Has Then : ℕ → ℕ → Type 0) (n : ℕ)
    (same : (x w : ℕ) → x < n → Has x w → Then x w) where
  pub counted_same : (k r : ℕ) → k ≤ n → AreCounted Has k r → AreCounted Then k r
  counted_same zero r low h = tt
  counted_same (suc k) r low h = (
    h.0,
    h.1,
    same k h.0 (omega (arith, low)) h.2,
    counted_same k h.1 (omega (arith, low)) h.3,
    h.4,
  )

  -- where one node's is less by `d`, so is the sum
  module _ (x d : ℕ) (less : (w : ℕ) → Has x w → (v : ℕ) × (v + d ≤ w) × Then x v) where
    pub counted_less : (k r : ℕ) → k ≤ n → x < k → AreCounted Has k r
        → (s : ℕ) × (s + d ≤ r) × AreCounted Then k s
    counted_less zero r low within h = absurd (omega (arith, within))
    counted_less (suc k) r low within h = elim (cases_eq x k) [
      | inl here ↦ (
          let l = less h.0 (subst (λ y. Has y h.0) (sym here) h.2) in
          let le = l.1 in
          let sum = h.4 in (
            l.0 + h.1,
            omega (arith, le, sum),
            (
              l.0,
              h.1,
              subst (λ y. Then y l.0) here l.2,
              counted_same k h.1 (omega (arith, low)) h.3,
              omega arith,
            ),
          )
          )
      | inr ne ↦ (
          let l = counted_less k h.1 (omega (arith, low)) (omega (arith, within, ne)) h.3 in
          let le = l.1 in
          let sum = h.4 in (
            h.0 + l.0,
            omega (arith, le, sum),
            (h.0, l.0, same k h.0 (omega (arith, low)) h.2, l.2, omega arith),
          )
          )
    ]
