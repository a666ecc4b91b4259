-- Rows of words that are put together, and where one stops.
use Rattle.std.proofs.Common.{◌≡◌, ℕ, zero, suc, ◌+◌, ◌-◌, ◌*◌, ◌<◌, ◌≤◌, List, [], ◌∷◌, ◌++◌, length, take, drop, replicate, zero-add, get_or-take, append_assoc, refl, sym, ap, subst, ◌∙◌, arith}
use Rattle.std.proofs.lemmas.List.{drop-drop, drop_at, length-take-le, length-replicate, take_at, take-append-le, take-replicate, replicate-append-replicate}
use Rattle.std.proofs.lemmas.Slice.{take-put_mid_below}
use Rattle.std.specs.Prelude.{IfErr, IsErrAnd, Result, Ok, Err}
use borrow.Rule.Slice.PartMut.{put_mid, post_of}
use Rattle.ivy_model.specs.declared.fault.Fault.{Fault}
use Rattle.ivy_model.specs.declared.row.Row.{Row}
use Rattle.ivy_model.specs.Rows.{numbers_in, record_in}
use Rattle.ivy_model.proofs.Rows.{length-numbers_in, same_numbers}
use Rattle.ivy_calls.specs.declared.answer.Answer.{Answer}
use Rattle.ivy_calls.specs.declared.error.CallError.{CallError}
use Rattle.ivy_calls.specs.Answers.{answer}
use Rattle.ivy_calls.specs.Fails.{Fails}
use Rattle.ivy_calls.specs.BlockAnswers.{in_row, word_call, first_number, StopsInRow}

-- the words before a place, and those from there on
pub numbers_in-append : (m n : ℕ) (bytes : List ℕ)
    → numbers_in (m + n) bytes ≡ numbers_in m bytes ++ numbers_in n (drop (8 * m) bytes)
numbers_in-append zero n bytes = ap (λ k. numbers_in k bytes) (zero-add n)
numbers_in-append (suc m) n bytes =
    let count : suc m + n ≡ suc (m + n) = omega arith in
    let by : 8 + 8 * m ≡ 8 * suc m = omega arith in
    ap (λ k. numbers_in k bytes) count
    ∙ ap (λ (l : List ℕ). first_number bytes ∷ l) (numbers_in-append m n (drop 8 bytes))
    ∙ ap (λ (l : List ℕ). numbers_in (suc m) bytes ++ numbers_in n l)
    (drop-drop (8 * m) 8 bytes ∙ ap (λ k. drop k bytes) by)

-- the numbers read no byte past their words
pub first_number-take : (m : ℕ) (bytes : List ℕ) → 8 ≤ m
    → first_number (take m bytes) ≡ first_number bytes
first_number-take m bytes le =
    rw (
      get_or-take m bytes 0 0 (omega (arith, le)),
      get_or-take m bytes 1 0 (omega (arith, le)),
      get_or-take m bytes 2 0 (omega (arith, le)),
      get_or-take m bytes 3 0 (omega (arith, le)),
      get_or-take m bytes 4 0 (omega (arith, le)),
      get_or-take m bytes 5 0 (omega (arith, le)),
      get_or-take m bytes 6 0 (omega (arith, le)),
      get_or-take m bytes 7 0 (omega (arith, le)),
    ) refl

-- words of one number
pub some_of_same : (n most number : ℕ) (bytes : List ℕ) → n ≤ most
    → numbers_in most bytes ≡ replicate most number → numbers_in n bytes ≡ replicate n number
some_of_same n most number bytes le all =
    let k : ℕ = most - n in
    let count : most ≡ n + k = omega (arith, le) in
    sym (take_at (numbers_in n bytes) (numbers_in k (drop (8 * n) bytes)) n
    (length-numbers_in n bytes))
    ∙ ap (take n) (sym (numbers_in-append n k bytes) ∙ ap (λ i. numbers_in i bytes) (sym count)
    ∙ all)
    ∙ take-replicate n most number le

-- what stands in a list of bytes of which a part was written, from the m-th word on
module _ (m k : ℕ) (bytes part : List ℕ) (from : 8 * m ≤ length bytes) where
  pub put_before : numbers_in m (put_mid (8 * m) k bytes part) ≡ numbers_in m bytes
  put_before =
      same_numbers m _ _ (take-put_mid_below (8 * m) k bytes part (8 * m) (omega arith) from)

  pub put_there : (n : ℕ) → 8 * n ≤ length part
      → numbers_in n (drop (8 * m) (put_mid (8 * m) k bytes part)) ≡ numbers_in n part
  put_there n fits =
      let rest : List ℕ = post_of (8 * m) k bytes in
      ap (numbers_in n)
      (drop_at (take (8 * m) bytes) (part ++ rest) (8 * m) (length-take-le (8 * m) bytes from))
      ∙ same_numbers n (part ++ rest) part (take-append-le (8 * n) part rest fits)

-- the answers to a row, and to the row behind it
in_row-append : (kind : Row) (addr : ℕ) (xs ys : List ℕ)
    → in_row kind addr (xs ++ ys) ≡ in_row kind addr xs ++ in_row kind (addr + 8 * length xs) ys
in_row-append kind addr [] ys =
    let here : addr ≡ addr + 8 * 0 = omega arith in
    ap (λ a. in_row kind a ys) here
in_row-append kind addr (x ∷ xs) ys =
    let there : addr + 8 + 8 * length xs ≡ addr + 8 * length (x ∷ xs) = omega arith in
    ap (λ (l : List Answer). answer (record_in kind 0 addr x) ∷ l)
    (in_row-append kind (addr + 8) xs ys
    ∙ ap (λ a. in_row kind (addr + 8) xs ++ in_row kind a ys) there)

-- m words were answered, and then more
row_goes_on : (kind : Row) (addr m : ℕ) (xs ys : List ℕ) (old mid new : List Answer)
    → length xs ≡ m → mid ≡ old ++ in_row kind addr xs → new ≡ mid ++ in_row kind (addr + 8 * m) ys
    → new ≡ old ++ in_row kind addr (xs ++ ys)
row_goes_on kind addr m xs ys old mid new long before after =
    after
    ∙ ap (λ (l : List Answer). l ++ in_row kind (addr + 8 * m) ys) before
    ∙ append_assoc old (in_row kind addr xs) (in_row kind (addr + 8 * m) ys)
    ∙ ap (λ k. old ++ (in_row kind addr xs ++ in_row kind (addr + 8 * k) ys)) (sym long)
    ∙ ap (λ (l : List Answer). old ++ l) (sym (in_row-append kind addr xs ys))

-- m words were answered, and the next one failed
row_stops : (can : Fault → Type 0) (kind : Row) (addr m number : ℕ) (xs ys all : List ℕ)
    (e : CallError) (old mid new : List Answer) → length xs ≡ m → all ≡ xs ++ number ∷ ys
    → mid ≡ old ++ in_row kind addr xs → Fails can (word_call kind (addr + 8 * m) number) e mid new
    → StopsInRow can kind addr all e old new
row_stops can kind addr m number xs ys all e old mid new long whole before fails = record {
  done = xs;
  number = number;
  rest = ys;
  whole = whole;
  fails = subst
      (λ i. Fails can (word_call kind (addr + 8 * i) number) e (old ++ in_row kind addr xs) new)
      (sym long)
      (subst (λ (l : List Answer). Fails can (word_call kind (addr + 8 * m) number) e l new) before
      fails);
}

-- the words of some bytes
module _ (kind : Row) (addr m : ℕ) (bytes : List ℕ) (old mid new : List Answer)
    (before : mid ≡ old ++ in_row kind addr (numbers_in m bytes)) where
  pub words_go_on : (n : ℕ)
      → new ≡ mid ++ in_row kind (addr + 8 * m) (numbers_in n (drop (8 * m) bytes))
      → new ≡ old ++ in_row kind addr (numbers_in (m + n) bytes)
  words_go_on n after =
      row_goes_on kind addr m (numbers_in m bytes) (numbers_in n (drop (8 * m) bytes)) old mid new
      (length-numbers_in m bytes) before after
      ∙ ap (λ (l : List ℕ). old ++ in_row kind addr l) (sym (numbers_in-append m n bytes))

  pub words_stop : (can : Fault → Type 0) (n : ℕ) (e : CallError) → m < n
      → Fails can (word_call kind (addr + 8 * m) (first_number (drop (8 * m) bytes))) e mid new
      → StopsInRow can kind addr (numbers_in n bytes) e old new
  words_stop can n e lt fails =
      let k : ℕ = n - m - 1 in
      let count : n ≡ m + suc k = omega (arith, lt) in
      let at : List ℕ = drop (8 * m) bytes in
      row_stops can kind addr m (first_number at) (numbers_in m bytes)
      (numbers_in k (drop 8 at)) (numbers_in n bytes) e old mid new (length-numbers_in m bytes)
      (ap (λ i. numbers_in i bytes) count ∙ numbers_in-append m (suc k) bytes) before fails

-- and words of one number
module _ (kind : Row) (addr m number : ℕ) (old mid new : List Answer)
    (before : mid ≡ old ++ in_row kind addr (replicate m number)) where
  pub same_go_on : (n : ℕ)
      → new ≡ mid ++ in_row kind (addr + 8 * m) (replicate n number)
      → new ≡ old ++ in_row kind addr (replicate (m + n) number)
  same_go_on n after =
      row_goes_on kind addr m (replicate m number) (replicate n number) old mid new
      (length-replicate {A = ℕ} m number) before after
      ∙ ap (λ (l : List ℕ). old ++ in_row kind addr l) (replicate-append-replicate m n number)

  pub same_stop : (can : Fault → Type 0) (n : ℕ) (e : CallError) → m < n
      → Fails can (word_call kind (addr + 8 * m) number) e mid new
      → StopsInRow can kind addr (replicate n number) e old new
  same_stop can n e lt fails =
      let k : ℕ = n - m - 1 in
      let count : n ≡ m + suc k = omega (arith, lt) in
      row_stops can kind addr m number (replicate m number) (replicate k number)
      (replicate n number) e old mid new (length-replicate {A = ℕ} m number)
      (ap (λ i. replicate i number) count ∙ sym (replicate-append-replicate m (suc k) number)) before fails

-- of a result that has exactly this error
pub fails_as : {T E : Type 0} (r : Result T E) (e : E) (Q : E → Type 0) → IsErrAnd r (λ x. x ≡ e)
    → Q e → IfErr r Q
fails_as (Ok v) e Q is q = tt
fails_as (Err x) e Q is q = subst Q (sym is) q
