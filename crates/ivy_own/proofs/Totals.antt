-- Sums over lists.
use Rattle.std.proofs.Common.{◌≡◌, ◌≢◌, ℕ, zero, suc, ◌+◌, ◌≤◌, List, [], ◌∷◌, ◌++◌, set, refl}
use Rattle.std.proofs.Common.{sym, ap, arith}
use mathlib.Core.Option.{some, some-injective, some-ne-none}
use lib.ListN.{get_elem?}
use Rattle.ivy_own.specs.Rule.{total}

module _ {A : Type 0} where
  pub total_set : (f : A → ℕ) (views : List A) (p : ℕ) (v w : A) → get_elem? views p ≡ some v
      → total f (set views p w) + f v ≡ total f views + f w
  total_set f [] p v w at = absurd (some-ne-none v (sym at))
  total_set f (x ∷ xs) zero v w at = let e = ap f (some-injective x v at) in omega arith
  total_set f (x ∷ xs) (suc p) v w at = let e = total_set f xs p v w at in omega arith

  pub total-append : (f : A → ℕ) (xs ys : List A) → total f (xs ++ ys) ≡ total f xs + total f ys
  total-append f [] ys = omega arith
  total-append f (x ∷ xs) ys = let e = total-append f xs ys in omega arith

  pub total_one : (f : A → ℕ) (views : List A) (p : ℕ) (v : A) → get_elem? views p ≡ some v
      → f v ≤ total f views
  total_one f [] p v at = absurd (some-ne-none v (sym at))
  total_one f (x ∷ xs) zero v at = let e = ap f (some-injective x v at) in omega arith
  total_one f (x ∷ xs) (suc p) v at = let e = total_one f xs p v at in omega arith

  pub total_two : (f : A → ℕ) (views : List A) (p q : ℕ) (v u : A) → p ≢ q
      → get_elem? views p ≡ some v → get_elem? views q ≡ some u → f v + f u ≤ total f views
  total_two f [] p q v u n at at' = absurd (some-ne-none v (sym at))
  total_two f (x ∷ xs) zero zero v u n at at' = absurd (n refl)
  total_two f (x ∷ xs) zero (suc q) v u n at at' =
      let e = ap f (some-injective x v at) in let h = total_one f xs q u at' in omega arith
  total_two f (x ∷ xs) (suc p) zero v u n at at' =
      let e = ap f (some-injective x u at') in let h = total_one f xs p v at in omega arith
  total_two f (x ∷ xs) (suc p) (suc q) v u n at at' =
      let h = total_two f xs p q v u (λ e. n (ap suc e)) at at' in omega arith
