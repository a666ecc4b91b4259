-- Answers of words of a row that are taken one after another.
use Rattle.std.proofs.Common.{◌≡◌, ℕ, zero, suc, ◌+◌, ◌-◌, ◌*◌, ◌≤◌, List, [], ◌∷◌, ◌++◌, length, take, drop, Option, Some, refl, sym, ap, ◌∙◌, subst, arith}
use Rattle.std.proofs.lemmas.List.{drop-drop, places, same_lists}
use Rattle.byteorder.specs.Endian.{big_number}
use Rattle.ivy_model.specs.declared.Row.{Row}
use Rattle.ivy_model.specs.declared.Row.TheVariants.{Loads, Stores}
use Rattle.ivy_model.specs.Rows.{numbers_in}
use Rattle.ivy_model.specs.stated.Serves.{overwrite}
use Rattle.ivy_model.proofs.Rows.{length-numbers_in, same_numbers}
use Rattle.ivy_pagetable.specs.declared.Out.{Out}
use Rattle.ivy_pagetable.specs.declared.Word.{Word}
use Rattle.ivy_pagetable.specs.WordRows.{out_in}
use Rattle.ivy_coherence.specs.stated.Coherent.{Coherent}
use Rattle.ivy_coherence.specs.stated.Several.{first_out, later_outs}
use Rattle.ivy_coherence.specs.Rests.{Behind, behind, outs_of}
use Rattle.ivy_coherence.specs.Takes.{AreOutsTaken, given, next_taken}

-- what stores give has no number
pub stores_give : (n : ℕ) (xs ys : List ℕ)
    → outs_of Stores (numbers_in n xs) ≡ outs_of Stores (numbers_in n ys)
stores_give zero xs ys = refl
stores_give (suc n) xs ys =
    ap (λ (os : List Out). out_in Stores 0 ∷ os) (stores_give n (drop 8 xs) (drop 8 ys))

-- the numbers that were copied behind the first word
pub copied_behind : (n start : ℕ) (into new from : List ℕ) → 8 + 8 * n ≤ length into
    → start + 8 * n ≤ length from → new ≡ overwrite into 8 (take (8 * n) (drop start from))
    → numbers_in n (drop 8 new) ≡ numbers_in n (drop start from)
copied_behind n start into new from room le is =
    ap (λ b. numbers_in n (drop 8 b)) is
    ∙ same_numbers n _ _ (same_lists _ _ (grind (arith, places)) (λ k d h. grind (arith, places)))

-- the first of the answers that are left, and the others
pub some_left : (kind : Row) (many rest : ℕ) (bytes : List ℕ)
    → outs_of kind (numbers_in (many + rest) bytes)
    ≡ outs_of kind (numbers_in many bytes) ++ outs_of kind (numbers_in rest (drop (8 * many) bytes))
some_left kind zero rest bytes =
    let none : zero + rest ≡ rest = omega arith in
    ap (λ n. outs_of kind (numbers_in n bytes)) none
some_left kind (suc many) rest bytes =
    let more : suc many + rest ≡ suc (many + rest) = omega arith in
    let on : 8 + 8 * many ≡ 8 * suc many = omega arith in
    ap (λ n. outs_of kind (numbers_in n bytes)) more
    ∙ ap (λ (os : List Out). out_in kind (big_number 8 bytes) ∷ os)
    (some_left kind many rest (drop 8 bytes))
    ∙ ap (λ (b : List ℕ). out_in kind (big_number 8 bytes)
    ∷ (outs_of kind (numbers_in many (drop 8 bytes)) ++ outs_of kind (numbers_in rest b)))
    (drop-drop (8 * many) 8 bytes ∙ ap (λ k. drop k bytes) on)

pub row_left : (kind : Row) (offset left many : ℕ) (bytes : List ℕ) → many ≤ left
    → outs_of kind (numbers_in left (drop offset bytes))
    ≡ outs_of kind (numbers_in many (drop offset bytes))
    ++ outs_of kind (numbers_in (left - many) (drop (offset + 8 * many) bytes))
row_left kind offset left many bytes le =
    let all : left ≡ many + (left - many) = omega (arith, le) in
    ap (λ n. outs_of kind (numbers_in n (drop offset bytes))) all
    ∙ some_left kind many (left - many) (drop offset bytes)
    ∙ ap (λ (b : List ℕ). outs_of kind (numbers_in many (drop offset bytes))
    ++ outs_of kind (numbers_in (left - many) b)) (drop-drop (8 * many) offset bytes)

-- how many of the answers of a row are of its kind: all
outs_count : (kind : Row) (ns : List ℕ) → given kind (outs_of kind ns) ≡ length ns
outs_count Loads [] = refl
outs_count Loads (n ∷ ns) = ap suc (outs_count Loads ns)
outs_count Stores [] = refl
outs_count Stores (n ∷ ns) = ap suc (outs_count Stores ns)

outs_long : (kind : Row) (ns : List ℕ) → length (outs_of kind ns) ≡ length ns
outs_long kind [] = refl
outs_long kind (n ∷ ns) = ap suc (outs_long kind ns)

module _ (one other : Row) (offset waiting left : ℕ) (bytes : List ℕ) (r : Behind)
    (is : behind other offset waiting left bytes ≡ r) where
  pub all_given : one ≡ other → given one r.outs ≡ left
  all_given same =
      ap (given one)
      (sym (ap (λ (x : Behind). x.outs) is)
      ∙ ap (λ k. outs_of k (numbers_in left (drop offset bytes))) (sym same))
      ∙ outs_count one (numbers_in left (drop offset bytes))
      ∙ length-numbers_in left (drop offset bytes)

  -- there are as many as are left
  pub many_left : left ≡ length r.outs
  many_left =
      sym (outs_long other (numbers_in left (drop offset bytes))
      ∙ length-numbers_in left (drop offset bytes))
      ∙ ap (λ (x : Behind). length x.outs) is

-- the answer that is there, and some of those behind it
pub row_taken : {S : Type 0} (kind : Row) (number : ℕ) (more : List ℕ) (post : List Out)
    (c : Coherent S) → c.done ≡ Some (out_in kind number)
    → c.done_more ≡ outs_of kind more ++ post
    → AreOutsTaken kind (number ∷ more) c
    (record c { done = first_out post; done_more = later_outs post })
row_taken kind number [] post c here behind =
    (here, ap (λ os. record c { done = first_out os; done_more = later_outs os }) (sym behind))
row_taken kind number (next ∷ more) post c here behind = (
  here,
  row_taken kind next more post (next_taken c) (ap first_out behind) (ap later_outs behind),
)

-- as the code has it: `v` is what the fields are seen as, `n` the value
module _ {S : Type 0} (n v : Coherent S) (same : v ≡ n) (kind : Row) (number many : ℕ)
    (into last : List ℕ) (post : List Out) where
  together : v.done ≡ Some (out_in kind number)
      → v.done_more ≡ outs_of kind (numbers_in many (drop 8 into)) ++ post
      → out_in kind (big_number 8 last) ≡ out_in kind number → drop 8 last ≡ drop 8 into
      → AreOutsTaken kind (numbers_in (many + 1) last) n
      (record v { done = first_out post; done_more = later_outs post })
  together here behind put rest =
      let one : suc many ≡ many + 1 = omega arith in
      let last_more : outs_of kind (numbers_in many (drop 8 into))
      ≡ outs_of kind (numbers_in many (drop 8 last)) =
      ap (λ b. outs_of kind (numbers_in many b)) (sym rest) in
      subst (λ k. AreOutsTaken kind (numbers_in k last) n
      (record v { done = first_out post; done_more = later_outs post })) one
      (subst (λ m. AreOutsTaken kind (numbers_in (suc many) last) m
      (record v { done = first_out post; done_more = later_outs post })) same
      (row_taken kind (big_number 8 last) (numbers_in many (drop 8 last)) post v
      (here ∙ ap Some (sym put)) (behind ∙ ap (λ os. os ++ post) last_more)))

  pub taken_together : (words : List Word) (d : Option Out) (r : Behind)
      → v.done ≡ Some (out_in kind number)
      → v.done_more ≡ outs_of kind (numbers_in many (drop 8 into)) ++ post
      → out_in kind (big_number 8 last) ≡ out_in kind number → drop 8 last ≡ drop 8 into
      → words ≡ v.more → d ≡ first_out post → r.words ≡ words → r.outs ≡ later_outs post
      → AreOutsTaken kind (numbers_in (many + 1) last) n
      (record v { more = r.words; done = d; done_more = r.outs })
  taken_together words d r here behind put rest kept out wait outs =
      subst (AreOutsTaken kind (numbers_in (many + 1) last) n)
      (sym (λ j. record v { more = (wait ∙ kept) j; done = out j; done_more = outs j }))
      (together here behind put rest)
