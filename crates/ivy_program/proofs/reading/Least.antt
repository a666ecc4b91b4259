-- The least number with a property.
use Rattle.std.proofs.Common.{◌≡◌, ◌⊎◌, ⊎_elim, ℕ, ◌<◌, ◌≤◌, nat_lt, Bool, true, false, cond, Option, Some, None, refl, arith}
use Rattle.std.proofs.lemmas.Bool.Decides.{nat_tests}
use Rattle.ivy_program.specs.texts.Readings.{IsLeastOrNone, lesser}

-- the same property
pub least_same : (P Q : ℕ → Type 0) (o : Option ℕ) → IsLeastOrNone P o → ((m : ℕ) → P m → Q m)
    → ((m : ℕ) → Q m → P m) → IsLeastOrNone Q o
least_same P Q None h to from = λ n q. h n (from n q)
least_same P Q (Some n) h to from = (to n h.0, λ m q. h.1 m (from m q))

lt : (k n : ℕ) → nat_lt k n ≡ true → k < n
lt k n h = grind (arith, nat_tests)

ge : (k n : ℕ) → nat_lt k n ≡ false → n ≤ k
ge k n h = grind (arith, nat_tests)

module _ (P R Q : ℕ → Type 0) (n : ℕ) (r : R n) (low : (m : ℕ) → R m → n ≤ m)
    (split : (m : ℕ) → Q m → P m ⊎ R m) (left : (m : ℕ) → P m → Q m) (right : (m : ℕ) → R m → Q m)
  where
    either : (k : ℕ) (p : IsLeastOrNone P (Some k)) (b : Bool) → nat_lt k n ≡ b
        → Q (cond b k n) × ((m : ℕ) → Q m → cond b k n ≤ m)
    either k p true h =
        (left k p.0, λ m q. ⊎_elim (λ a. p.1 m a) (λ b. omega (arith, low m b, lt k n h)) (split m q))
    either k p false h =
        (right n r, λ m q. ⊎_elim (λ a. omega (arith, p.1 m a, ge k n h)) (λ b. low m b) (split m q))

    -- one of two properties, where this is the least number with the second
    pub least_join : (o : Option ℕ) → IsLeastOrNone P o → IsLeastOrNone Q (Some (lesser o n))
    least_join None p = (right n r, λ m q. ⊎_elim (λ a. absurd (p m a)) (λ b. low m b) (split m q))
    least_join (Some k) p = either k p (nat_lt k n) refl
