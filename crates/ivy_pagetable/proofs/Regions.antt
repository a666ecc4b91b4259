-- The pages of a region: which bytes each has, what the region is with one of them written, and
-- that together they are the region.
use Rattle.std.proofs.Common.{◌≡◌, ℕ, zero, suc, ◌+◌, ◌-◌, ◌*◌, ◌<◌, ◌≤◌, List, [], ◌∷◌, ◌++◌}
use Rattle.std.proofs.Common.{length, get_or, set, take, drop, replicate, refl, sym, ap, ◌∙◌, arith}
use Rattle.std.proofs.Common.{length-drop, eqb, eqb-true, inl, inr, if◌then◌else◌}
use Rattle.std.specs.List.{concat, refill}
use Rattle.std.proofs.Math.Nat.{suc-mul}
use Rattle.std.proofs.lemmas.List.{length-replicate, places, same_lists, take-replicate, drop-replicate, take-append-drop, nil_from_length}
use Rattle.std.proofs.lemmas.Bool.{cases_Bool, eq-eqb}
use Rattle.ivy_pagetable.specs.declared.entry.Entry.{Entry}
use Rattle.ivy_pagetable.specs.stated.TableState.{Table, pages_in}
use Rattle.ivy_pagetable.specs.stated.Tables.{with_page}
use Rattle.ivy_pagetable.specs.Lending.{poured, spilled, page_given_back}

pub length-pages_in : (size n : ℕ) (bytes : List ℕ) → length (pages_in size n bytes) ≡ n
length-pages_in size zero bytes = refl
length-pages_in size (suc n) bytes = ap suc (length-pages_in size n (drop size bytes))

-- a page lies in its region
pub page_inside : (size n i : ℕ) → i < n → i * size + size ≤ n * size
page_inside size n i lt = grind (arith)

rest_long : (size n : ℕ) (bytes : List ℕ) → length bytes ≡ suc n * size
    → length (drop size bytes) ≡ n * size
rest_long size n bytes long = omega (arith, long, length-drop size bytes, suc-mul n size)

pub page_in : (size n i : ℕ) (bytes : List ℕ) → i < n → length bytes ≡ n * size
    → get_or (pages_in size n bytes) i [] ≡ take size (drop (i * size) bytes)
page_in size zero i bytes lt long = absurd (omega (arith, lt))
page_in size (suc n) zero bytes lt long =
    (let none : 0 ≡ 0 * size = omega arith in ap (λ (k : ℕ). take size (drop k bytes)) none)
page_in size (suc n) (suc i) bytes lt long =
    page_in size n i (drop size bytes) (omega (arith, lt)) (rest_long size n bytes long)
    ∙ ap (take size) (same_lists _ _ (grind (arith, places)) (λ k d h. grind (arith, places)))

-- with one page written
pub page_written : (size n i : ℕ) (bytes new : List ℕ) → i < n → length bytes ≡ n * size
    → length new ≡ size
    → pages_in size n (take (i * size) bytes ++ new ++ drop (i * size + size) bytes)
    ≡ set (pages_in size n bytes) i new
page_written size zero i bytes new lt long sized = absurd (omega (arith, lt))
page_written size (suc n) zero bytes new lt long sized =
    let one : take size (take (0 * size) bytes ++ new ++ drop (0 * size + size) bytes) ≡ new =
    same_lists _ _ (grind (arith, places)) (λ k d h. grind (arith, places)) in
    let rest : drop size (take (0 * size) bytes ++ new ++ drop (0 * size + size) bytes)
    ≡ drop size bytes =
    same_lists _ _ (grind (arith, places)) (λ k d h. grind (arith, places)) in
    (λ j. one j ∷ pages_in size n (rest j))
page_written size (suc n) (suc i) bytes new lt long sized =
    let all : List ℕ = take (suc i * size) bytes ++ new ++ drop (suc i * size + size) bytes in
    let inside : i * size + size ≤ n * size = page_inside size n i (omega (arith, lt)) in
    let one : take size all ≡ take size bytes =
    same_lists _ _ (grind (arith, places)) (λ k d h. grind (arith, places)) in
    let rest : drop size all
    ≡ take (i * size) (drop size bytes) ++ new ++ drop (i * size + size) (drop size bytes) =
    same_lists _ _ (grind (arith, places)) (λ k d h. grind (arith, places)) in
    (λ j. one j
    ∷ (ap (pages_in size n) rest
    ∙ page_written size n i (drop size bytes) new (omega (arith, lt))
    (rest_long size n bytes long) sized) j)

-- zeros are pages of zeros
pub pages_of_zeros : (size n : ℕ)
    → pages_in size n (replicate (n * size) 0) ≡ replicate n (replicate size 0)
pages_of_zeros size zero = refl
pages_of_zeros size (suc n) =
    let one : take size (replicate (suc n * size) 0) ≡ replicate size 0 =
    take-replicate size (suc n * size) 0 (omega (arith, suc-mul n size)) in
    let rest : drop size (replicate (suc n * size) 0) ≡ replicate (n * size) 0 =
    drop-replicate size (suc n * size) 0
    ∙ (let left : suc n * size - size ≡ n * size = omega (arith, suc-mul n size) in
    ap (λ (k : ℕ). replicate k 0) left) in
    (λ j. one j ∷ (ap (pages_in size n) rest ∙ pages_of_zeros size n) j)

pub first_region : (size n : ℕ) (first : Entry) (entries : List Entry) (bytes : List ℕ)
    → entries ≡ replicate n first → bytes ≡ replicate (n * size) 0
    → ◌≡◌ {A = Table}
    (record { page_size = size; entries = entries; pages = pages_in size (length entries) bytes })
    (record {
      page_size = size;
      entries = replicate n first;
      pages = replicate n (replicate size 0);
    })
first_region size n first entries bytes entries_are bytes_are =
    let many : length entries ≡ n = ap length entries_are ∙ length-replicate n first in
    let pages : pages_in size (length entries) bytes ≡ replicate n (replicate size 0) =
    ap (λ (k : ℕ). pages_in size k bytes) many ∙ ap (pages_in size n) bytes_are
    ∙ pages_of_zeros size n in
    (λ j. record { page_size = size; entries = entries_are j; pages = pages j })

-- all pages, in order, are the region
pub pages_joined : (size n : ℕ) (bytes : List ℕ) → length bytes ≡ n * size
    → concat (pages_in size n bytes) ≡ bytes
pages_joined size zero bytes long = sym (nil_from_length bytes (omega (arith, long)))
pages_joined size (suc n) bytes long =
    ap (λ xs. take size bytes ++ xs)
    (pages_joined size n (drop size bytes) (rest_long size n bytes long))
    ∙ take-append-drop size bytes

-- what was written over a page
pub written_is : (t : Table) (page : ℕ) (new : List ℕ) → length new ≡ t.page_size
    → page_given_back t page new ≡ with_page t page new
written_is t page new sized =
    ap (λ b. if b then with_page t page new else spilled t page new)
    (eq-eqb (length new) t.page_size sized)

pub region_written : (size page len start : ℕ) (entries : List Entry) (bytes new : List ℕ)
    → page < length entries → length bytes ≡ length entries * size → len ≡ length bytes
    → start ≡ page * size
    → ◌≡◌ {A = Table}
    (record {
      page_size = size;
      entries = entries;
      pages = pages_in size (length entries)
          (refill len bytes (take start bytes ++ (new ++ drop (length new) (drop start bytes))));
    })
    (page_given_back
    (record {
      page_size = size;
      entries = entries;
      pages = pages_in size (length entries) bytes;
    }) page new)
region_written size page len start entries bytes new lt long len_is start_is =
    ap (λ (k : ℕ). with_pages
    (refill k bytes (take start bytes ++ (new ++ drop (length new) (drop start bytes))))) len_is
    ∙ ap (λ (k : ℕ). with_pages
    (refill (length bytes) bytes (take k bytes ++ (new ++ drop (length new) (drop k bytes)))))
    start_is
    ∙ elim (cases_Bool (eqb (length new) size)) [
      | inl y ↦
          fits (eqb-true (length new) size y)
          ∙ sym (written_is before page new (eqb-true (length new) size y))
      | inr y ↦
          ap (λ xs. with_pages (poured xs (page * size) new))
          (sym (pages_joined size (length entries) bytes long))
          ∙ sym (ap (λ b. if b then with_page before page new else spilled before page new) y)
    ]
  where
    with_pages : List ℕ → Table
    with_pages xs =
        record { page_size = size; entries = entries; pages = pages_in size (length entries) xs }

    before : Table
    before = with_pages bytes

    fits : length new ≡ size
        → with_pages (poured bytes (page * size) new) ≡ with_page before page new
    fits sized =
        let inside : page * size + size ≤ length entries * size =
        page_inside size (length entries) page lt in
        let same : poured bytes (page * size) new
        ≡ take (page * size) bytes ++ new ++ drop (page * size + size) bytes =
        same_lists _ _ (grind (arith, places)) (λ k d h. grind (arith, places)) in
        ap with_pages same
        ∙ ap (λ ps. record { page_size = size; entries = entries; pages = ps })
        (page_written size (length entries) page bytes new lt long sized)

-- the bytes that are lent of a page, and how many
pub page_lent : (size n page start end : ℕ) (bytes : List ℕ) → page < n → length bytes ≡ n * size
    → start ≡ page * size → end ≡ page * size + size
    → take (end - start) (drop start bytes) ≡ get_or (pages_in size n bytes) page []
page_lent size n page start end bytes lt long start_is end_is =
    let count : end - start ≡ size = omega (arith, start_is, end_is) in
    ap (λ (k : ℕ). take k (drop start bytes)) count
    ∙ ap (λ (k : ℕ). take size (drop k bytes)) start_is
    ∙ sym (page_in size n page bytes lt long)

pub page_sized : (size n page start end : ℕ) (bytes : List ℕ) → page < n → length bytes ≡ n * size
    → start ≡ page * size → end ≡ page * size + size
    → length (take (end - start) (drop start bytes)) ≡ size
page_sized size n page start end bytes lt long start_is end_is =
    let inside = page_inside size n page lt in
    grind (arith, places)
