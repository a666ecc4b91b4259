-- Rows of words: how many they are, and which record is at which place.
use Rattle.std.proofs.Common.{◌≡◌, ℕ, zero, suc, ◌+◌, ◌-◌, ◌*◌, ◌<◌, ◌≤◌, List, [], ◌∷◌, length, take, drop, slice_get, Some, refl, sym, ap, ◌∙◌, arith}
use Rattle.std.proofs.lemmas.List.{drop-drop, drop-take}
use Rattle.byteorder.specs.Endian.{big_number}
use Rattle.byteorder.specs.Numbers.{big_from-take}
use Rattle.ivy_model.specs.declared.call.Call.{Call}
use Rattle.ivy_model.specs.declared.row.Row.{Row}
use Rattle.ivy_model.specs.declared.row.Row.TheVariants.{Loads, Stores}
use Rattle.ivy_model.specs.Rows.{numbers_in, record_in, row, calls_of}

-- so many words have so many numbers
pub length-numbers_in : (n : ℕ) (bytes : List ℕ) → length (numbers_in n bytes) ≡ n
length-numbers_in zero bytes = refl
length-numbers_in (suc n) bytes = ap suc (length-numbers_in n (drop 8 bytes))

-- and a record for each
pub length-row : (kind : Row) (node addr : ℕ) (numbers : List ℕ)
    → length (row kind node addr numbers) ≡ length numbers
length-row kind node addr [] = refl
length-row kind node addr (number ∷ more) = ap suc (length-row kind node (addr + 8) more)

call-of-record : (kind : Row) (i j addr number : ℕ)
    → (record_in kind i addr number).call ≡ (record_in kind j addr number).call
call-of-record Loads i j addr number = refl
call-of-record Stores i j addr number = refl

-- the calls are the same whatever node makes them
pub calls-of-row : (kind : Row) (i j addr : ℕ) (numbers : List ℕ)
    → calls_of (row kind i addr numbers) ≡ calls_of (row kind j addr numbers)
calls-of-row kind i j addr [] = refl
calls-of-row kind i j addr (number ∷ more) =
    ap (λ (k : Call). k ∷ calls_of (row kind i (addr + 8) more)) (call-of-record kind i j addr number)
    ∙ ap (λ (ks : List Call). (record_in kind j addr number).call ∷ ks)
    (calls-of-row kind i j (addr + 8) more)

-- the record of each word
pub row_at : (kind : Row) (node addr k n : ℕ) (bytes : List ℕ) → k < n
    → slice_get (row kind node addr (numbers_in n bytes)) k
    ≡ Some (record_in kind node (addr + 8 * k) (big_number 8 (drop (8 * k) bytes)))
row_at kind node addr k zero bytes lt = absurd (omega (arith, lt))
row_at kind node addr zero (suc n) bytes lt =
    let here : addr ≡ addr + 8 * 0 = omega arith in
    ap (λ (a : ℕ). Some (record_in kind node a (big_number 8 bytes))) here
row_at kind node addr (suc k) (suc n) bytes lt =
    let on : addr + 8 + 8 * k ≡ addr + 8 * suc k = omega arith in
    let by : 8 + 8 * k ≡ 8 * suc k = omega arith in
    row_at kind node (addr + 8) k n (drop 8 bytes) (omega (arith, lt))
    ∙ ap (λ (a : ℕ). Some (record_in kind node a (big_number 8 (drop (8 * k) (drop 8 bytes))))) on
    ∙ ap (λ (l : List ℕ). Some (record_in kind node (addr + 8 * suc k) (big_number 8 l)))
    (drop-drop (8 * k) 8 bytes ∙ ap (λ (m : ℕ). drop m bytes) by)

-- the numbers read no byte past their words
pub numbers_in-take : (n m : ℕ) (bytes : List ℕ) → 8 * n ≤ m
    → numbers_in n (take m bytes) ≡ numbers_in n bytes
numbers_in-take zero m bytes le = refl
numbers_in-take (suc n) m bytes le =
    let number : big_number 8 (take m bytes) ≡ big_number 8 bytes =
    big_from-take 0 8 m bytes (omega (arith, le)) in
    let long : m ≡ 8 + (m - 8) = omega (arith, le) in
    let rest : drop 8 (take m bytes) ≡ take (m - 8) (drop 8 bytes) =
    ap (λ k. drop 8 (take k bytes)) long ∙ drop-take 8 (m - 8) bytes in
    (λ j. number j
    ∷ (ap (numbers_in n) rest
    ∙ numbers_in-take n (m - 8) (drop 8 bytes) (omega (arith, le))) j)

pub same_numbers : (n : ℕ) (xs ys : List ℕ) → take (8 * n) xs ≡ take (8 * n) ys
    → numbers_in n xs ≡ numbers_in n ys
same_numbers n xs ys e =
    sym (numbers_in-take n (8 * n) xs (omega arith)) ∙ ap (numbers_in n) e
    ∙ numbers_in-take n (8 * n) ys (omega arith)
