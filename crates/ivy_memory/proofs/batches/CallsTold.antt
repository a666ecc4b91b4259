-- The calls of a row tell which row it is, and which bytes its words have.
use Rattle.std.proofs.Common.{◌≡◌, ℕ, zero, suc, ◌+◌, ◌*◌, ◌<◌, ◌≤◌, All, List, ◌∷◌, ◌++◌, length, length-drop, map, take, drop, slice_get, refl, sym, ap, ◌∙◌, arith}
use Rattle.std.proofs.lemmas.List.{drop-take, take-append-drop, take-take}
use Rattle.std.proofs.lemmas.List.Elements.{All-drop}
use Rattle.std.proofs.lemmas.Option.{same_Some}
use Rattle.byteorder.specs.Endian.{big_bytes, big_number}
use Rattle.ivy_model.specs.declared.Call.{Call}
use Rattle.ivy_model.specs.declared.Call.TheVariants as call
use Rattle.ivy_model.specs.declared.Row.{Row}
use Rattle.ivy_model.specs.declared.Row.TheVariants.{Loads, Stores}
use Rattle.ivy_model.specs.Rows.{numbers_in, record_in}
use Rattle.ivy_pagetable.proofs.Words.{bytes_of_number}
use Rattle.ivy_memory.specs.BatchedCalls.{CallsAlong, calls_left, first_call, row_calls}
use Rattle.ivy_memory.proofs.batches.CallsLeft.{all_left, first_left, many_left}

-- what a call of a row tells
kind_of : Call → Row
kind_of (call.Load width addr) = Loads
kind_of _ = Stores

place_of : Call → ℕ
place_of (call.Load width addr) = addr
place_of (call.Store width addr value) = addr
place_of _ = 0

value_of : Call → ℕ
value_of (call.Store width addr value) = value
value_of _ = 0

kind_told : (kind : Row) (addr number : ℕ) → kind_of (record_in kind 0 addr number).call ≡ kind
unfolding kind_of
kind_told Loads addr number = refl
kind_told Stores addr number = refl

place_told : (kind : Row) (addr number : ℕ) → place_of (record_in kind 0 addr number).call ≡ addr
unfolding place_of
place_told Loads addr number = refl
place_told Stores addr number = refl

-- stores tell their numbers
values_are : (n addr : ℕ) (bytes : List ℕ)
    → map value_of (row_calls Stores addr n bytes) ≡ numbers_in n bytes
unfolding value_of
values_are zero addr bytes = refl
values_are (suc n) addr bytes =
    ap (λ (ns : List ℕ). big_number 8 bytes ∷ ns) (values_are n (addr + 8) (drop 8 bytes))

pub numbers_told : (n addr : ℕ) (xs ys : List ℕ)
    → row_calls Stores addr n xs ≡ row_calls Stores addr n ys → numbers_in n xs ≡ numbers_in n ys
numbers_told n addr xs ys same =
    sym (values_are n addr xs) ∙ ap (map value_of) same ∙ values_are n addr ys

-- and numbers their bytes
split : (n : ℕ) (xs : List ℕ) → take (8 + n) xs ≡ take 8 xs ++ take n (drop 8 xs)
split n xs =
    sym (take-append-drop 8 (take (8 + n) xs))
    ∙ (λ j. take-take 8 (8 + n) xs (omega arith) j ++ drop-take 8 n xs j)

pub bytes_told : (n : ℕ) (xs ys : List ℕ) → numbers_in n xs ≡ numbers_in n ys
    → 8 * n ≤ length xs → 8 * n ≤ length ys → All (λ b. b < 256) xs → All (λ b. b < 256) ys
    → take (8 * n) xs ≡ take (8 * n) ys
bytes_told zero xs ys same long_xs long_ys all_xs all_ys = refl
bytes_told (suc n) xs ys same long_xs long_ys all_xs all_ys =
    let number : big_number 8 xs ≡ big_number 8 ys =
    same_Some (big_number 8 xs) (big_number 8 ys) (ap (λ (ns : List ℕ). slice_get ns 0) same) in
    let first : take 8 xs ≡ take 8 ys =
    sym (bytes_of_number 8 xs (omega (arith, long_xs)) all_xs)
    ∙ ap (big_bytes 8) number ∙ bytes_of_number 8 ys (omega (arith, long_ys)) all_ys in
    let rest : take (8 * n) (drop 8 xs) ≡ take (8 * n) (drop 8 ys) =
    bytes_told n (drop 8 xs) (drop 8 ys) (ap (drop 1) same)
    (omega (arith, long_xs, length-drop 8 xs)) (omega (arith, long_ys, length-drop 8 ys))
    (All-drop (λ b. b < 256) 8 xs all_xs) (All-drop (λ b. b < 256) 8 ys all_ys) in
    let more : 8 * suc n ≡ 8 + 8 * n = omega arith in
    ap (λ m. take m xs) more ∙ split (8 * n) xs ∙ (λ j. first j ++ rest j)
    ∙ sym (ap (λ m. take m ys) more ∙ split (8 * n) ys)

-- those that are left, as the code keeps them
module _ (kind : Row) (addr left at : ℕ) (bytes : List ℕ) (r : CallsAlong)
    (is : calls_left kind addr left at bytes ≡ r) (some : 1 ≤ left) (k : Row) (first : ℕ)
    (from : List ℕ) (row : r.calls ≡ row_calls k (first + 8) (length r.calls) from) where
  heads : first_call kind addr (drop at bytes) ≡ first_call k (first + 8) from
  heads =
      let many = many_left kind addr left at bytes r is in
      same_Some (first_call kind addr (drop at bytes)) (first_call k (first + 8) from)
      (ap (λ (ks : List Call). slice_get ks 0)
      (sym (all_left kind addr left at bytes r is some) ∙ row
      ∙ first_left k (first + 8) (length r.calls) from (omega (arith, many, some))))

  pub kind_left : kind ≡ k
  kind_left =
      sym (kind_told kind addr (big_number 8 (drop at bytes))) ∙ ap kind_of heads
      ∙ kind_told k (first + 8) (big_number 8 from)

  pub place_left : addr ≡ first + 8
  place_left =
      sym (place_told kind addr (big_number 8 (drop at bytes))) ∙ ap place_of heads
      ∙ place_told k (first + 8) (big_number 8 from)

-- and of stores its numbers
pub numbers_left : (kind : Row) (addr left at : ℕ) (bytes : List ℕ) (r : CallsAlong)
    → calls_left kind addr left at bytes ≡ r → 1 ≤ left → (first : ℕ) (from : List ℕ)
    → r.calls ≡ row_calls Stores (first + 8) (length r.calls) from
    → numbers_in left (drop at bytes) ≡ numbers_in left from
numbers_left kind addr left at bytes r is some first from row =
    let stores = kind_left kind addr left at bytes r is some Stores first from row in
    let place = place_left kind addr left at bytes r is some Stores first from row in
    let many = many_left kind addr left at bytes r is in
    numbers_told left (first + 8) (drop at bytes) from
    (sym (λ j. row_calls (stores j) (place j) left (drop at bytes))
    ∙ ap (λ (x : CallsAlong). x.calls) is ∙ row
    ∙ ap (λ n. row_calls Stores (first + 8) n from) (sym many))
