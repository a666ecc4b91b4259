-- The last of a list that goes on.
use Rattle.std.proofs.Common.{◌≡◌, ℕ, zero, suc, ◌-◌, ◌≤◌, List, [], ◌∷◌, ◌++◌, length, slice_get, Some, None, ap, ◌∙◌, sym, arith, append-nil}
use Rattle.ivy_moves.specs.Keeping.{last_of}

got_behind : {T : Type 0} (x : T) (list : List T) (n : ℕ) → 1 ≤ n
    → slice_get (x ∷ list) n ≡ slice_get list (n - 1)
got_behind x list zero le = absurd (omega (arith, le))
got_behind x list (suc n) le =
    let one : n ≡ suc n - 1 = omega arith in
    ap (λ (k : ℕ). slice_get list k) one

-- the last of a list is the one behind all others
at_end : {T : Type 0} (x : T) (list : List T) → last_of (x ∷ list) ≡ slice_get (x ∷ list) (length list)
at_end x list =
    let one : suc (length list) - 1 ≡ length list = omega arith in
    ap (λ (k : ℕ). slice_get (x ∷ list) k) one

some_there : {T : Type 0} (list : List T) (x : T) (more : List T) → 1 ≤ length (list ++ x ∷ more)
some_there [] x more = omega arith
some_there (y ∷ list) x more = omega arith

ends : {T : Type 0} (list : List T) (x : T) (more : List T)
    → last_of (list ++ x ∷ more) ≡ last_of (x ∷ more)
ends [] x more = at_end x more ∙ sym (at_end x more)
ends (y ∷ list) x more =
    at_end y (list ++ x ∷ more)
    ∙ got_behind y (list ++ x ∷ more) (length (list ++ x ∷ more)) (some_there list x more)
    ∙ ends list x more

end_there : {T : Type 0} (x : T) (more : List T) → slice_get (x ∷ more) (length more) ≡ None → ⊥
end_there x [] is = absurd cc
end_there x (y ∷ more) is = end_there y more is

-- where what a list goes on by has a last, that is the last then
pub last_of_more : {T : Type 0} (list more : List T) (x : T) → last_of more ≡ Some x
    → last_of (list ++ more) ≡ Some x
last_of_more list [] x is = absurd cc
last_of_more list (y ∷ more) x is = ends list y more ∙ is

-- else it is as it was
pub last_as_before : {T : Type 0} (list more : List T) → last_of more ≡ None
    → last_of (list ++ more) ≡ last_of list
last_as_before list [] is = ap last_of (append-nil list)
last_as_before list (y ∷ more) is = absurd (end_there y more (sym (at_end y more) ∙ is))
