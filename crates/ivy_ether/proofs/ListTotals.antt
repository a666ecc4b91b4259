-- Sums over lists.
use Rattle.std.proofs.Common.{◌≡◌, ◌≢◌, ℕ, zero, suc, ◌+◌, ◌<◌, ◌≤◌, List, [], ◌∷◌, ◌++◌, length, set, get_or, Contains, refl, sym, ap, arith}
use mathlib.Core.Option.{some, some-injective, some-ne-none}
use lib.ListN.{get_elem?}
use Rattle.ivy_ether.specs.Rule.{total}

module _ {A : Type 0} where
  pub total_set : (f : A → ℕ) (views : List A) (p : ℕ) (v w : A) → get_elem? views p ≡ some v
      → total f (set views p w) + f v ≡ total f views + f w
  total_set f [] p v w at = absurd (some-ne-none v (sym at))
  total_set f (x ∷ xs) zero v w at = let e = ap f (some-injective x v at) in omega arith
  total_set f (x ∷ xs) (suc p) v w at = let e = total_set f xs p v w at in omega arith

  pub total-append : (f : A → ℕ) (xs ys : List A) → total f (xs ++ ys) ≡ total f xs + total f ys
  total-append f [] ys = omega arith
  total-append f (x ∷ xs) ys = let e = total-append f xs ys in omega arith

  pub total_one : (f : A → ℕ) (views : List A) (p : ℕ) (v : A) → get_elem? views p ≡ some v
      → f v ≤ total f views
  total_one f [] p v at = absurd (some-ne-none v (sym at))
  total_one f (x ∷ xs) zero v at = let e = ap f (some-injective x v at) in omega arith
  total_one f (x ∷ xs) (suc p) v at = let e = total_one f xs p v at in omega arith

  pub total_two : (f : A → ℕ) (views : List A) (p q : ℕ) (v u : A) → p ≢ q
      → get_elem? views p ≡ some v → get_elem? views q ≡ some u → f v + f u ≤ total f views
  total_two f [] p q v u n at at' = absurd (some-ne-none v (sym at))
  total_two f (x ∷ xs) zero zero v u n at at' = absurd (n refl)
  total_two f (x ∷ xs) zero (suc q) v u n at at' =
      let e = ap f (some-injective x v at) in let h = total_one f xs q u at' in omega arith
  total_two f (x ∷ xs) (suc p) zero v u n at at' =
      let e = ap f (some-injective x u at') in let h = total_one f xs p v at in omega arith
  total_two f (x ∷ xs) (suc p) (suc q) v u n at at' =
      let h = total_two f xs p q v u (λ e. n (ap suc e)) at at' in omega arith

  pub in_list : (l : List A) (i : ℕ) (a : A) → get_elem? l i ≡ some a → i < length l
  in_list [] i a e = absurd (some-ne-none a (sym e))
  in_list (x ∷ xs) zero a e = omega arith
  in_list (x ∷ xs) (suc i) a e = let h = in_list xs i a e in omega arith

  total_at : (f : A → ℕ) (xs : List A) (x : A) (k : ℕ) → k < length xs → get_or xs k x ≡ x
      → f x ≤ total f xs
  total_at f [] x k lt is = absurd (omega (arith, lt))
  total_at f (y ∷ ys) x zero lt is = let e = ap f is in omega arith
  total_at f (y ∷ ys) x (suc k) lt is =
      let h = total_at f ys x k (omega (arith, lt)) is in omega arith

  pub total_in : (f : A → ℕ) (xs : List A) (x : A) → Contains xs x → f x ≤ total f xs
  total_in f xs x there = total_at f xs x there.0 there.1 there.2
