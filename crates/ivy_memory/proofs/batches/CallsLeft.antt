-- The calls of a row that are left, as the code keeps them.
use Rattle.std.proofs.Common.{◌≡◌, ℕ, zero, suc, ◌+◌, ◌-◌, ◌*◌, ◌≤◌, List, [], ◌∷◌, length, take, drop, Some, None, slice_get, refl, sym, ap, ◌∙◌, arith}
use Rattle.std.proofs.lemmas.List.{drop-drop}
use Rattle.byteorder.specs.Numbers.{big_from-take}
use Rattle.ivy_model.specs.declared.Call.{Call}
use Rattle.ivy_model.specs.declared.Row.{Row}
use Rattle.ivy_model.specs.declared.Row.TheVariants.{Loads, Stores}
use Rattle.ivy_model.specs.Rows.{calls_of, numbers_in, record_in, row}
use Rattle.ivy_model.proofs.Rows.{length-numbers_in, same_numbers}
use Rattle.ivy_memory.specs.BatchedCalls.{CallsAlong, row_calls, calls_left, first_call}

-- there are as many as numbers
pub length-calls : (kind : Row) (addr : ℕ) (numbers : List ℕ)
    → length (calls_of (row kind 0 addr numbers)) ≡ length numbers
length-calls kind addr [] = refl
length-calls kind addr (number ∷ more) = ap suc (length-calls kind (addr + 8) more)

-- the first of them, and the others
pub first_left : (kind : Row) (addr left : ℕ) (bytes : List ℕ) → 1 ≤ left
    → row_calls kind addr left bytes
    ≡ first_call kind addr bytes ∷ row_calls kind (addr + 8) (left - 1) (drop 8 bytes)
first_left kind addr zero bytes some = absurd (omega (arith, some))
first_left kind addr (suc n) bytes some =
    let less : suc n - 1 ≡ n = omega arith in
    ap (λ m. first_call kind addr bytes ∷ row_calls kind (addr + 8) m (drop 8 bytes)) (sym less)

-- it reads no byte past its word
pub first_taken : (kind : Row) (addr m : ℕ) (bytes : List ℕ) → 8 ≤ m
    → first_call kind addr (take m bytes) ≡ first_call kind addr bytes
first_taken kind addr m bytes le =
    ap (λ (n : ℕ). (record_in kind 0 addr n).call) (big_from-take 0 8 m bytes le)

module _ (kind : Row) (addr left at : ℕ) (bytes : List ℕ) (r : CallsAlong)
    (is : calls_left kind addr left at bytes ≡ r) where
  pub all_left : 1 ≤ left
      → r.calls
      ≡ first_call kind addr (drop at bytes)
      ∷ row_calls kind (addr + 8) (left - 1) (drop 8 (drop at bytes))
  all_left some =
      ap (λ (x : CallsAlong). x.calls) (sym is) ∙ first_left kind addr left (drop at bytes) some

  pub many_left : left ≡ length r.calls
  many_left =
      sym (length-calls kind addr (numbers_in left (drop at bytes))
      ∙ length-numbers_in left (drop at bytes))
      ∙ ap (λ (x : CallsAlong). length x.calls) is

  -- the first is taken
  pub next_left : 1 ≤ left → Some (first_call kind addr (drop at bytes)) ≡ slice_get r.calls 0
  next_left some = sym (ap (λ (ks : List Call). slice_get ks 0) (all_left some))

  pub rest_left : 1 ≤ left
      → calls_left kind (addr + 8) (left - 1) (at + 8) bytes
      ≡ record { size = r.size; calls = drop 1 r.calls }
  rest_left some =
      (λ j. record {
        size = (ap (λ (x : CallsAlong). x.size) is) j;
        calls = row_calls kind (addr + 8) (left - 1) (sym (drop-drop 8 at bytes) j);
      })
      ∙ ap (λ (ks : List Call). record { size = r.size; calls = drop 1 ks }) (sym (all_left some))

  -- none is there
  none_left : left ≡ 0 → r.calls ≡ []
  none_left none =
      ap (λ (x : CallsAlong). x.calls) (sym is)
      ∙ ap (λ m. row_calls kind addr m (drop at bytes)) none

  pub no_next : left ≡ 0 → None ≡ slice_get r.calls 0
  no_next none = sym (ap (λ (ks : List Call). slice_get ks 0) (none_left none))

  pub no_rest : left ≡ 0
      → calls_left kind addr left at bytes ≡ record { size = r.size; calls = drop 1 r.calls }
  no_rest none =
      is ∙ ap (λ (ks : List Call). record { size = r.size; calls = ks }) (none_left none)
      ∙ sym (ap (λ (ks : List Call). record { size = r.size; calls = drop 1 ks }) (none_left none))

-- the numbers of these bytes stand there from now on
pub left_now : (kind : Row) (addr n size : ℕ) (own new from : List ℕ) → size ≡ length own
    → length new ≡ length own → take (8 * n) new ≡ take (8 * n) from
    → calls_left kind addr n 0 new ≡ record { size = size; calls = row_calls kind addr n from }
left_now kind addr n size own new from sized long same =
    (λ j. record {
      size = (long ∙ sym sized) j;
      calls = calls_of (row kind 0 addr (same_numbers n new from same j));
    })

-- loads have no number
loads_same : (n addr : ℕ) (xs ys : List ℕ) → row_calls Loads addr n xs ≡ row_calls Loads addr n ys
loads_same zero addr xs ys = refl
loads_same (suc n) addr xs ys =
    ap (λ (ks : List Call). (record_in Loads 0 addr 0).call ∷ ks)
    (loads_same n (addr + 8) (drop 8 xs) (drop 8 ys))

-- those that are left are those of a row behind a first one
module _ (kind : Row) (addr left at : ℕ) (bytes : List ℕ) (r : CallsAlong)
    (is : calls_left kind addr left at bytes ≡ r) where
  pub loads_left : (first : ℕ) → kind ≡ Loads → addr ≡ first + 8 → (from : List ℕ)
      → r.calls ≡ row_calls Loads (first + 8) (length r.calls) from
  loads_left first loads behind from =
      let many = many_left kind addr left at bytes r is in
      sym (ap (λ (x : CallsAlong). x.calls) is)
      ∙ (λ j. row_calls (loads j) (behind j) (many j) (drop at bytes))
      ∙ loads_same (length r.calls) (first + 8) (drop at bytes) from

  pub stores_left : (first : ℕ) (from : List ℕ) → kind ≡ Stores → addr ≡ first + 8
      → take (8 * left) (drop at bytes) ≡ take (8 * left) from
      → r.calls ≡ row_calls Stores (first + 8) (length r.calls) from
  stores_left first from stores behind same =
      sym (ap (λ (x : CallsAlong). x.calls) is)
      ∙ (λ j. calls_of (row (stores j) 0 (behind j) (same_numbers left (drop at bytes) from same j)))
      ∙ ap (λ n. row_calls Stores (first + 8) n from) (many_left kind addr left at bytes r is)
