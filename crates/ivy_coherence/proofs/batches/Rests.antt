-- Rows of words that wait together: what carrying them out comes to, and what is left of their answers.
use Rattle.std.proofs.Common.{◌≡◌, ◌≢◌, ℕ, zero, suc, ◌+◌, ◌-◌, ◌*◌, ◌%◌, ◌<◌, ◌≤◌, List, [], ◌∷◌, length, take, drop, All, refl, sym, ap, ◌∙◌, arith}
use Rattle.std.proofs.lemmas.List.{drop-drop, places, same_lists}
use Rattle.std.proofs.lemmas.List.Elements.{All-drop}
use Rattle.byteorder.specs.Endian.{big_number}
use Rattle.ivy_model.specs.declared.Row.{Row}
use Rattle.ivy_model.specs.declared.Row.TheVariants.{Loads, Stores}
use Rattle.ivy_model.specs.Rows.{numbers_in}
use Rattle.ivy_model.specs.stated.Serves.{overwrite}
use Rattle.ivy_model.proofs.Rows.{same_numbers, length-numbers_in}
use Rattle.ivy_pagetable.specs.declared.Out.{Out}
use Rattle.ivy_pagetable.specs.declared.Word.{Word}
use Rattle.ivy_pagetable.specs.declared.Word.TheVariants.{Load}
use Rattle.ivy_pagetable.specs.stated.Words.{carried_out}
use Rattle.ivy_pagetable.specs.WordRows.{AreCarried, word_in, out_in, with_row}
use Rattle.ivy_pagetable.proofs.RowsCarried.{loads, stores}
use Rattle.ivy_coherence.specs.stated.Several.{AllCarried, all_carried, later_outs}
use Rattle.ivy_coherence.specs.Rests.{Behind, behind, row_words, outs_of}

-- what the words of a row come to, one after another
pub all_is : (kind : Row) (offset : ℕ) (numbers old new : List ℕ)
    → AreCarried kind offset numbers old new
    → all_carried (row_words kind offset numbers) old
    ≡ record { outs = outs_of kind numbers; bytes = new }
all_is kind offset [] old new h = ap (λ (b : List ℕ). record { outs = []; bytes = b }) (sym h)
all_is kind offset (number ∷ more) old new h =
    let next : List ℕ = (carried_out (word_in kind offset number) old).bytes in
    let words : List Word = row_words kind (offset + 8) more in
    let rest : all_carried words next ≡ record { outs = outs_of kind more; bytes = new } =
    all_is kind (offset + 8) more next new h.2 in
    ap (λ (o : Out). record {
      outs = o ∷ (all_carried words next).outs;
      bytes = (all_carried words next).bytes;
    }) h.1
    ∙ ap (λ (r : AllCarried). record { outs = out_in kind number ∷ r.outs; bytes = r.bytes }) rest

-- the words of loads have no numbers
loads_alike : (offset : ℕ) (xs ys : List ℕ) → length xs ≡ length ys
    → row_words Loads offset xs ≡ row_words Loads offset ys
loads_alike offset [] [] e = refl
loads_alike offset [] (y ∷ ys) e = absurd cc
loads_alike offset (x ∷ xs) [] e = absurd cc
loads_alike offset (x ∷ xs) (y ∷ ys) e =
    ap (λ (ws : List Word). Load 8 offset ∷ ws) (loads_alike (offset + 8) xs ys (omega (arith, e)))

pub loads_same : (n offset : ℕ) (xs ys : List ℕ)
    → row_words Loads offset (numbers_in n xs) ≡ row_words Loads offset (numbers_in n ys)
loads_same n offset xs ys =
    loads_alike offset (numbers_in n xs) (numbers_in n ys)
    (length-numbers_in n xs ∙ sym (length-numbers_in n ys))

-- the numbers that were copied out of a page
copied_numbers : (n start : ℕ) (into page : List ℕ) → start + 8 * n ≤ length page
    → length into ≡ length page
    → numbers_in n (drop start (overwrite into start (take (8 * n) (drop start page))))
    ≡ numbers_in n (drop start page)
copied_numbers n start into page le same =
    same_numbers n _ _ (same_lists _ _ (grind (arith, places)) (λ k d h. grind (arith, places)))

pub loads_carried : (n start : ℕ) (into new page : List ℕ) → start % 8 ≡ 0
    → start + 8 * n ≤ length page → length into ≡ length page
    → new ≡ overwrite into start (take (8 * n) (drop start page))
    → all_carried (row_words Loads start (numbers_in n (drop start into))) page
    ≡ record { outs = outs_of Loads (numbers_in n (drop start new)); bytes = page }
loads_carried n start into new page aligned le same is =
    let numbers : numbers_in n (drop start page) ≡ numbers_in n (drop start new) =
    sym (ap (λ b. numbers_in n (drop start b)) is ∙ copied_numbers n start into page le same) in
    ap (λ (ws : List Word). all_carried ws page)
    (loads_same n start (drop start into) (drop start page))
    ∙ all_is Loads start (numbers_in n (drop start page)) page page (loads n start page aligned le)
    ∙ ap (λ (ns : List ℕ). record { outs = outs_of Loads ns; bytes = page }) numbers

-- what lies around the row was copied out of the page
around : (n start : ℕ) (own page : List ℕ) → start + 8 * n ≤ length page
    → length own ≡ length page
    → overwrite (overwrite own 0 (take start page)) (start + 8 * n)
    (take (length page - (start + 8 * n)) (drop (start + 8 * n) page))
    ≡ with_row page start n (drop start own)
around n start own page le same =
    same_lists _ _ (grind (arith, places)) (λ k d h. grind (arith, places))

kept_numbers : (n start : ℕ) (own page : List ℕ) → start + 8 * n ≤ length page
    → length own ≡ length page
    → numbers_in n (drop start (with_row page start n (drop start own)))
    ≡ numbers_in n (drop start own)
kept_numbers n start own page le same =
    same_numbers n _ _ (same_lists _ _ (grind (arith, places)) (λ k d h. grind (arith, places)))

pub stores_kept : (n start : ℕ) (own new page : List ℕ) → start + 8 * n ≤ length page
    → length own ≡ length page
    → new ≡ overwrite (overwrite own 0 (take start page)) (start + 8 * n)
    (take (length page - (start + 8 * n)) (drop (start + 8 * n) page))
    → numbers_in n (drop start new) ≡ numbers_in n (drop start own)
stores_kept n start own new page le same is =
    ap (λ b. numbers_in n (drop start b)) (is ∙ around n start own page le same)
    ∙ kept_numbers n start own page le same

pub stores_carried : (n start : ℕ) (own new page : List ℕ) → start % 8 ≡ 0
    → start + 8 * n ≤ length page → length own ≡ length page → All (λ b. b < 256) own
    → new ≡ overwrite (overwrite own 0 (take start page)) (start + 8 * n)
    (take (length page - (start + 8 * n)) (drop (start + 8 * n) page))
    → all_carried (row_words Stores start (numbers_in n (drop start own))) page
    ≡ record { outs = outs_of Stores (numbers_in n (drop start own)); bytes = new }
stores_carried n start own new page aligned le same all is =
    let many : 8 * n ≤ length (drop start own) = grind (arith, places) in
    all_is Stores start (numbers_in n (drop start own)) page _
    (stores n start page (drop start own) aligned le many
    (All-drop (λ b. b < 256) start own all))
    ∙ ap (λ (b : List ℕ). record {
      outs = outs_of Stores (numbers_in n (drop start own));
      bytes = b;
    })
    (sym (is ∙ around n start own page le same))

-- where an answer is there, no word waits
pub none_waits : (waiting left : ℕ) → (1 ≤ waiting → left ≡ 0) → 1 ≤ left → waiting ≡ 0
none_waits zero left h some = refl
none_waits (suc waiting) left h some = absurd (let e = h (omega arith) in omega (arith, e, some))

-- the first of the answers that are left
pub first_left : (kind : Row) (offset left : ℕ) (bytes : List ℕ) → 1 ≤ left
    → outs_of kind (numbers_in left (drop offset bytes))
    ≡ out_in kind (big_number 8 (drop offset bytes))
    ∷ outs_of kind (numbers_in (left - 1) (drop (offset + 8) bytes))
first_left kind offset zero bytes some = absurd (omega (arith, some))
first_left kind offset (suc left) bytes some =
    let number : ℕ = big_number 8 (drop offset bytes) in
    let less : left ≡ suc left - 1 = omega arith in
    ap (λ (bs : List ℕ). out_in kind number ∷ outs_of kind (numbers_in left bs))
    (drop-drop 8 offset bytes)
    ∙ ap (λ (n : ℕ). out_in kind number ∷ outs_of kind (numbers_in n (drop (offset + 8) bytes))) less

-- words wait from now on
pub waits_now : (kind : Row) (offset n size : ℕ) (own new from : List ℕ) → size ≡ length own
    → offset + 8 * n ≤ size → 8 * n ≤ length from → length new ≡ length own
    → new ≡ overwrite own offset (take (8 * n) from)
    → behind kind offset n 0 new
    ≡ record {
      size = size;
      words = row_words kind offset (numbers_in n from);
      came = outs_of kind (numbers_in n from);
      outs = [];
    }
waits_now kind offset n size own new from sized le many long is =
    let put : numbers_in n (drop offset (overwrite own offset (take (8 * n) from)))
    ≡ numbers_in n from =
    same_numbers n _ _ (same_lists _ _ (grind (arith, places)) (λ k d h. grind (arith, places))) in
    ap (λ (z : ℕ). record {
      size = z;
      words = row_words kind offset (numbers_in n (drop offset new));
      came = outs_of kind (numbers_in n (drop offset new));
      outs = [];
    }) (long ∙ sym sized)
    ∙ ap (λ (ns : List ℕ). record {
      size = size;
      words = row_words kind offset ns;
      came = outs_of kind ns;
      outs = [];
    })
    (ap (λ b. numbers_in n (drop offset b)) is ∙ put)

-- the first answer is taken
pub took : (kind : Row) (offset waiting left : ℕ) (bytes : List ℕ) (r : Behind)
    → behind kind offset waiting left bytes ≡ r → (1 ≤ waiting → left ≡ 0) → 1 ≤ left
    → behind kind (offset + 8) waiting (left - 1) bytes
    ≡ record { size = r.size; words = r.words; came = r.came; outs = later_outs r.outs }
took kind offset waiting left bytes r is apart some =
    let none : waiting ≡ 0 = none_waits waiting left apart some in
    let rest : List Out = outs_of kind (numbers_in (left - 1) (drop (offset + 8) bytes)) in
    ap (λ (w : ℕ). record {
      size = length bytes;
      words = row_words kind (offset + 8) (numbers_in w (drop (offset + 8) bytes));
      came = outs_of kind (numbers_in w (drop (offset + 8) bytes));
      outs = rest;
    }) none
    ∙ sym (ap (λ (w : ℕ). record {
      size = length bytes;
      words = row_words kind offset (numbers_in w (drop offset bytes));
      came = outs_of kind (numbers_in w (drop offset bytes));
      outs = rest;
    }) none)
    ∙ ap (λ (os : List Out). record {
      size = length bytes;
      words = row_words kind offset (numbers_in waiting (drop offset bytes));
      came = outs_of kind (numbers_in waiting (drop offset bytes));
      outs = later_outs os;
    }) (sym (first_left kind offset left bytes some))
    ∙ ap (λ (b : Behind). record {
      size = b.size;
      words = b.words;
      came = b.came;
      outs = later_outs b.outs;
    }) is

-- the words that wait are carried out
pub waits_still : (kind : Row) (offset waiting left : ℕ) (own new : List ℕ)
    → (1 ≤ waiting → left ≡ 0) → 1 ≤ waiting
    → outs_of kind (numbers_in left (drop offset new)) ≡ outs_of kind (numbers_in left (drop offset own))
waits_still kind offset waiting left own new apart some =
    ap (λ (l : ℕ). outs_of kind (numbers_in l (drop offset new))) (apart some)
    ∙ sym (ap (λ (l : ℕ). outs_of kind (numbers_in l (drop offset own))) (apart some))

-- a row of some words is not none
pub some_words : (kind : Row) (offset n : ℕ) (bytes : List ℕ) → 1 ≤ n
    → row_words kind offset (numbers_in n bytes) ≢ []
some_words kind offset zero bytes some = absurd (omega (arith, some))
some_words kind offset (suc n) bytes some = λ none. cc

pub some_outs : (kind : Row) (n : ℕ) (bytes : List ℕ) → 1 ≤ n
    → outs_of kind (numbers_in n bytes) ≢ []
some_outs kind zero bytes some = absurd (omega (arith, some))
some_outs kind (suc n) bytes some = λ none. cc
