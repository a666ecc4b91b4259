-- A node that loads a row, and makes one of a product.
use Rattle.std.proofs.Common.{◌≡◌, ℕ, suc, ◌+◌, ◌-◌, ◌*◌, ◌/◌, ◌^◌, ◌<◌, ◌≤◌, List, [], ◌∷◌, ◌++◌, length, take, drop, refl, sym, ap, ap₂, ◌∙◌}
use Rattle.std.proofs.Common.{append_assoc, arith}
use Rattle.std.specs.Int.{w64, from_be_bytes, to_be_bytes}
use Rattle.std.proofs.lemmas.List.{drop_at, take_at}
use Rattle.std.proofs.lemmas.Nat.{from_be_bytes-to_be_bytes_8}
use Rattle.ivy_model.specs.declared.row.Row.TheVariants.{Loads, Stores}
use Rattle.ivy_model.specs.Rows.{numbers_in}
use Rattle.ivy_model.proofs.Rows.{length-numbers_in, numbers_in-take}
use Rattle.ivy_calls.specs.declared.answer.Answer.{Answer}
use Rattle.ivy_calls.specs.BlockAnswers.{block_numbers, first_number, in_row}
use Rattle.ivy_calls.proofs.BlockAnswers.{first_number-take, numbers_in-append}
use Rattle.ivy_sync.specs.Doing.{loads, stores}
use Rattle.ivy_sync.specs.meeting.Reductions.{finds}
use Rattle.example_programs.specs.declared.matrix.Matrices.{Matrices}
use Rattle.example_programs.specs.Adding.{AddsSome}
use Rattle.example_programs.specs.WorkMatrices.{MakesRow, row_at}
use Rattle.example_programs.specs.NumberRows.{stores_each, times}

-- one number more of a block was read
pub numbers_more : (n v : ℕ) (bytes word old new : List ℕ) → old ≡ numbers_in n bytes
    → word ≡ take (8 * n + 8 - 8 * n) (drop (8 * n) bytes) → v ≡ first_number word
    → new ≡ old ++ v ∷ [] → new ≡ numbers_in (n + 1) bytes
numbers_more n v bytes word old new before here is more =
    let wide : 8 ≤ 8 * n + 8 - 8 * n = omega arith in
    let number : v ≡ first_number (drop (8 * n) bytes) =
    is ∙ ap first_number here
    ∙ first_number-take (8 * n + 8 - 8 * n) (drop (8 * n) bytes) wide in
    more
    ∙ ap₂ (λ (l : List ℕ) (x : ℕ). l ++ x ∷ []) before number
    ∙ sym (numbers_in-append n 1 bytes)

-- a block that was loaded is the numbers found in it
found_from : (at n : ℕ) (vs : List ℕ) → in_row Loads (at + 8 * n) vs ≡ finds at n vs
found_from at n [] = refl
found_from at n (v ∷ vs) =
    let on : at + 8 * n + 8 ≡ at + 8 * (n + 1) = omega arith in
    ap (λ (l : List Answer). loads (at + 8 * n) v ∷ l)
    (ap (λ a. in_row Loads a vs) on ∙ found_from at (n + 1) vs)

pub block_found : (at count : ℕ) (bytes numbers : List ℕ) (old new : List Answer)
    → length bytes ≡ 8 * count → new ≡ old ++ in_row Loads at (block_numbers bytes)
    → numbers ≡ block_numbers bytes
    → (length numbers ≡ count) × (new ≡ old ++ finds at 0 numbers)
block_found at count bytes numbers old new long load are =
    let words : length bytes / 8 ≡ count = omega (arith, long) in
    let here : at ≡ at + 8 * 0 = omega arith in (
      ap length are ∙ length-numbers_in (length bytes / 8) bytes ∙ words,
      load
          ∙ ap (λ (vs : List ℕ). old ++ in_row Loads at vs) (sym are)
          ∙ ap (λ a. old ++ in_row Loads a numbers) here
          ∙ ap (λ (l : List Answer). old ++ l) (found_from at 0 numbers),
    )

-- one number more is stored in a row
stored_more : (at v : ℕ) (vs : List ℕ)
    → in_row Stores at (vs ++ v ∷ []) ≡ in_row Stores at vs ++ stores (at + 8 * length vs) v ∷ []
stored_more at v [] =
    let here : at ≡ at + 8 * 0 = omega arith in
    ap (λ a. stores a v ∷ []) here
stored_more at v (x ∷ xs) =
    let there : at + 8 + 8 * length xs ≡ at + 8 * length (x ∷ xs) = omega arith in
    ap (λ (l : List Answer). stores at x ∷ l)
    (stored_more (at + 8) v xs ∙ ap (λ a. in_row Stores (at + 8) xs ++ stores a v ∷ []) there)

-- a number's bytes are a word of it
word_of : (v : ℕ) → v < 2 ^ 64 → numbers_in 1 (to_be_bytes w64 v) ≡ v ∷ []
word_of v fits =
    let same : first_number (to_be_bytes w64 v) ≡ from_be_bytes w64 (to_be_bytes w64 v) =
    omega arith in
    ap (λ n. n ∷ []) (same ∙ from_be_bytes-to_be_bytes_8 v fits)

-- one number more of a row is made
pub made_more : (at m v : ℕ) (f : ℕ → ℕ) (bytes word new : List ℕ) → length bytes ≡ 8 * m
    → in_row Stores at (numbers_in m bytes) ≡ stores_each at f m → v ≡ f m → v < 2 ^ 64
    → word ≡ to_be_bytes w64 v → new ≡ bytes ++ word
    → in_row Stores at (numbers_in (m + 1) new) ≡ stores_each at f (m + 1)
made_more at m v f bytes word new long made is fits of more =
    let before : numbers_in m (bytes ++ word) ≡ numbers_in m bytes =
    sym (numbers_in-take m (8 * m) (bytes ++ word) (omega arith))
    ∙ ap (numbers_in m) (take_at bytes word (8 * m) long) in
    let last : numbers_in 1 (drop (8 * m) (bytes ++ word)) ≡ f m ∷ [] =
    ap (numbers_in 1) (drop_at bytes word (8 * m) long ∙ of) ∙ word_of v fits
    ∙ ap (λ n. n ∷ []) is in
    let one : suc m ≡ m + 1 = omega arith in
    ap (λ (l : List ℕ). in_row Stores at (numbers_in (m + 1) l)) more
    ∙ ap (in_row Stores at) (numbers_in-append m 1 (bytes ++ word))
    ∙ ap₂ (λ (us : List ℕ) (vs : List ℕ). in_row Stores at (us ++ vs)) before last
    ∙ stored_more at (f m) (numbers_in m bytes)
    ∙ ap (λ k. in_row Stores at (numbers_in m bytes) ++ stores (at + 8 * k) (f m) ∷ [])
    (length-numbers_in m bytes)
    ∙ ap (λ (l : List Answer). l ++ stores (at + 8 * m) (f m) ∷ []) made
    ∙ ap (stores_each at f) one

-- the row was loaded, and its product stored
pub row_made : (work : Matrices) (row : ℕ) (left right : List ℕ) (old loaded new : List Answer)
    → length left ≡ work.size → loaded ≡ old ++ finds (row_at work work.left row) 0 left
    → new ≡ loaded ++ stores_each (row_at work work.product row) (times left right) work.size
    → AddsSome (MakesRow work right row) old new
row_made work row left right old loaded new all load store = record {
  added =
      finds (row_at work work.left row) 0 left
      ++ stores_each (row_at work work.product row) (times left right) work.size;
  are = record { left = left; all = all; whole = refl };
  whole =
      store
      ∙ ap (λ (l : List Answer). l ++ stores_each (row_at work work.product row)
      (times left right) work.size) load
      ∙ append_assoc old (finds (row_at work work.left row) 0 left)
      (stores_each (row_at work work.product row) (times left right) work.size);
}
