-- A row of words that is copied out of a page, or into it, is what carrying its words out one after
-- another comes to.
use Rattle.std.proofs.Common.{◌≡◌, ℕ, zero, suc, ◌+◌, ◌*◌, ◌%◌, ◌<◌, ◌≤◌, List}
use Rattle.std.proofs.Common.{[], length, take, drop, All, refl, sym, ap, ◌∙◌, lit<, subst, arith}
use Rattle.std.proofs.Common.{length-drop}
use Rattle.std.proofs.lemmas.List.{drop-drop, places, same_lists, set-get_or}
use Rattle.std.proofs.lemmas.List.Elements.{All-drop}
use Rattle.byteorder.specs.Endian.{big_number, big_bytes}
use Rattle.ivy_model.specs.declared.Row.TheVariants.{Loads, Stores}
use Rattle.ivy_model.specs.stated.Legal.{IsWidth}
use Rattle.ivy_model.specs.Rows.{numbers_in}
use Rattle.ivy_model.specs.stated.Serves.{overwrite}
use Rattle.ivy_model.proofs.Rows.{same_numbers}
use Rattle.ivy_pagetable.specs.declared.word.Word.TheVariants.{Load, Store}
use Rattle.ivy_pagetable.specs.stated.TableState.{Table}
use Rattle.ivy_pagetable.specs.stated.Tables.{page_at, with_page}
use Rattle.ivy_pagetable.specs.stated.Words.{IsWord}
use Rattle.ivy_pagetable.specs.WordRows.{AreCarried, with_row}
use Rattle.ivy_pagetable.proofs.Words.{bytes_of_number, length-overwrite}

eight : IsWidth 8
eight = (3, lit< tt, refl)

-- loads give the numbers that stand in the page, which stays
pub loads : (n offset : ℕ) (bytes : List ℕ) → offset % 8 ≡ 0 → offset + 8 * n ≤ length bytes
    → AreCarried Loads offset (numbers_in n (drop offset bytes)) bytes bytes
loads zero offset bytes aligned le = refl
loads (suc n) offset bytes aligned le =
    let rest : drop (offset + 8) bytes ≡ drop 8 (drop offset bytes) =
    sym (drop-drop 8 offset bytes) in
    let word : IsWord (length bytes) (Load 8 offset) =
    record { width = eight; aligned = aligned; within = omega (arith, le) } in (
      word,
      refl,
      subst (λ xs. AreCarried Loads (offset + 8) (numbers_in n xs) bytes bytes) rest
          (loads n (offset + 8) bytes (omega (arith, aligned)) (omega (arith, le))),
    )

-- no words change nothing
pub no_row : (offset : ℕ) (bytes from : List ℕ) → with_row bytes offset 0 from ≡ bytes
no_row offset bytes from =
    same_lists _ _ (grind (arith, places)) (λ k d h. grind (arith, places))

pub no_words : (t : Table) (page offset : ℕ) (from : List ℕ)
    → t ≡ with_page t page (with_row (page_at t page) offset 0 from)
no_words t page offset from =
    sym (ap (with_page t page) (no_row offset (page_at t page) from)
    ∙ ap (λ ps. record { page_size = t.page_size; entries = t.entries; pages = ps })
    (set-get_or t.pages page []))

-- stores put the bytes of the numbers there
pub stores : (n offset : ℕ) (bytes from : List ℕ) → offset % 8 ≡ 0
    → offset + 8 * n ≤ length bytes → 8 * n ≤ length from → All (λ b. b < 256) from
    → AreCarried Stores offset (numbers_in n from) bytes (with_row bytes offset n from)
stores zero offset bytes from aligned le many all = no_row offset bytes from
stores (suc n) offset bytes from aligned le many all =
    let one : List ℕ = overwrite bytes offset (take 8 from) in
    let put : overwrite bytes offset (big_bytes 8 (big_number 8 from)) ≡ one =
    ap (overwrite bytes offset) (bytes_of_number 8 from (omega (arith, many)) all) in
    let long : length one ≡ length bytes =
    length-overwrite bytes (take 8 from) offset (grind (arith, places)) in
    let row : with_row one (offset + 8) n (drop 8 from) ≡ with_row bytes offset (suc n) from =
    same_lists _ _ (grind (arith, places)) (λ k d h. grind (arith, places)) in
    let word : IsWord (length bytes) (Store 8 offset (big_number 8 from)) =
    record { width = eight; aligned = aligned; within = omega (arith, le) } in
    let rest : AreCarried Stores (offset + 8) (numbers_in n (drop 8 from)) one
    (with_row one (offset + 8) n (drop 8 from)) =
    stores n (offset + 8) one (drop 8 from) (omega (arith, aligned)) (omega (arith, le, long))
    (omega (arith, many, length-drop 8 from)) (All-drop (λ b. b < 256) 8 from all) in (
      word,
      refl,
      subst (λ b. AreCarried Stores (offset + 8) (numbers_in n (drop 8 from)) b
          (with_row bytes offset (suc n) from)) (sym put)
          (subst (AreCarried Stores (offset + 8) (numbers_in n (drop 8 from)) one) row rest),
    )

-- the numbers in bytes over which the words of a page were copied
pub loaded : (n offset : ℕ) (bytes old : List ℕ) → offset + 8 * n ≤ length bytes
    → 8 * n ≤ length old
    → numbers_in n (overwrite old 0 (take (8 * n) (drop offset bytes)))
    ≡ numbers_in n (drop offset bytes)
loaded n offset bytes old le fits =
    same_numbers n _ _ (same_lists _ _ (grind (arith, places)) (λ k d h. grind (arith, places)))
