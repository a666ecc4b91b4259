-- A word of the heap by its page.
use Rattle.std.proofs.Common.{◌≡◌, ℕ, zero, suc, ◌+◌, ◌-◌, ◌*◌, ◌/◌, ◌%◌, ◌<◌, ◌≤◌, List, [], ◌∷◌, length, take, drop, replicate, refl, sym, ap, ◌∙◌, arith, inl, inr}
use Rattle.std.proofs.lemmas.Bool.{ne_eqb, cases_order}
use Rattle.std.proofs.lemmas.List.{drop-drop, drop-take, length-take-le, length-drop, length-replicate, take-replicate, drop-replicate}
use Rattle.std.proofs.lemmas.List.Elements.{All-contains, All-from_recursion}
use Rattle.std.proofs.lemmas.Nat.{div-add-mod', div_below, le-div, mod_below, mul-le}
use Rattle.byteorder.specs.Endian.{big_number, big_bytes}
use Rattle.byteorder.specs.Numbers.{big_from-take, length-bytes_high_first}
use Rattle.ivy_model.specs.declared.config.Config.{Config}
use Rattle.ivy_model.specs.stated.Config.{IsConfig, heap_end, heap_len}
use Rattle.ivy_model.specs.stated.Legal.{IsWidth}
use Rattle.ivy_model.specs.stated.Memory.{Memory, first}
use Rattle.ivy_model.specs.Memory.{flat_page}
use Rattle.ivy_model.specs.stated.Serves.{overwrite}
use Rattle.ivy_model.proofs.Limits.{page_has_words}
use Rattle.ivy_model.proofs.Lists.{piece-overwrite, piece-overwrite_before, piece-overwrite_after}

-- where an aligned word of the heap lies
pub record IsPlaced (c : Config) (width addr : ℕ) : Type 0 where
  pub page_from : 1 ≤ addr / c.page_size
  pub page_to : addr / c.page_size < c.pages
  pub within : addr % c.page_size + width ≤ c.page_size
  pub split : addr ≡ addr / c.page_size * c.page_size + addr % c.page_size
  pub start : c.page_size ≤ addr / c.page_size * c.page_size

-- an aligned word that begins in a piece of whole words lies in it
offset_fits : (width m o n : ℕ) → IsWidth width → (8 * m + o) % width ≡ 0 → o < 8 * n
    → o + width ≤ 8 * n
offset_fits width m o n h =
    All-contains (λ w. (8 * m + o) % w ≡ 0 → o < 8 * n → o + w ≤ 8 * n) (1 ∷ 2 ∷ 4 ∷ 8 ∷ []) width
    (All-from_recursion (λ w. (8 * m + o) % w ≡ 0 → o < 8 * n → o + w ≤ 8 * n) (1 ∷ 2 ∷ 4 ∷ 8 ∷ [])
    (λ e l. omega arith, (λ e l. omega arith, (λ e l. omega arith, (λ e l. omega arith, tt)))))
    h

pub word_placed : (c : Config) (width addr : ℕ) → IsConfig c → IsWidth width → addr % width ≡ 0
    → c.page_size ≤ addr → addr < heap_end c → IsPlaced c width addr
word_placed c width addr h w aligned above below =
    let s = page_has_words c.page_size h.page_size in
    let page : ℕ = addr / c.page_size in
    let offset : ℕ = addr % c.page_size in
    let whole : page * c.page_size + offset ≡ addr = div-add-mod' addr c.page_size in
    let inside : offset < c.page_size = mod_below addr c.page_size (omega (arith, s.least)) in
    let from : 1 ≤ page =
    le-div 1 addr c.page_size (omega (arith, s.least)) (omega (arith, above)) in
    let words : page * c.page_size ≡ 8 * (page * (c.page_size / 8)) =
    ap (λ z. page * z) s.words ∙ grind arith in
    let fits : offset + width ≤ 8 * (c.page_size / 8) =
    offset_fits width (page * (c.page_size / 8)) offset (c.page_size / 8) w
    (ap (λ a. a % width) (omega (arith, whole, words)) ∙ aligned)
    (omega (arith, inside, s.words)) in
    record {
      page_from = from;
      page_to = div_below addr c.page_size c.pages (omega (arith, s.least)) below;
      within = omega (arith, fits, s.words);
      split = sym whole;
      start = omega (arith, mul-le 1 c.page_size page c.page_size from (omega arith));
    }

pub flat_page-heap : (c : Config) (m : Memory) (page : ℕ) → 1 ≤ page
    → flat_page c m page ≡ take c.page_size (drop (page * c.page_size - c.page_size) m.bytes)
flat_page-heap c m page h = rw (ne_eqb page 0 (omega (arith, h))) refl

-- a word read from a page
pub read_by_page : (c : Config) (m : Memory) (width addr : ℕ) → IsPlaced c width addr
    → big_number width (drop (addr - c.page_size) m.bytes)
    ≡ big_number width (drop (addr % c.page_size) (flat_page c m (addr / c.page_size)))
read_by_page c m width addr h =
    let size : ℕ = c.page_size in
    let from : ℕ = addr / size * size - size in
    let offset : ℕ = addr % size in
    let rest : List ℕ = drop from m.bytes in
    let place : from + offset ≡ addr - size = omega (arith, h.split, h.start) in
    let all : offset + (size - offset) ≡ size = omega (arith, h.within) in
    let cut : drop offset (take size rest) ≡ take (size - offset) (drop offset rest) =
    ap (λ n. drop offset (take n rest)) (sym all) ∙ drop-take offset (size - offset) rest in
    ap (λ n. big_number width (drop n m.bytes)) (sym place)
    ∙ ap (big_number width) (sym (drop-drop offset from m.bytes))
    ∙ sym (big_from-take 0 width (size - offset) (drop offset rest) (omega (arith, h.within)))
    ∙ ap (big_number width) (sym cut)
    ∙ ap (λ page. big_number width (drop offset page))
    (sym (flat_page-heap c m (addr / size) h.page_from))

-- the memory with a word stored in its heap
abbrev pub with_word : Config → Memory → ℕ → ℕ → ℕ → Memory
with_word c m width addr value =
    record {
      bytes = overwrite m.bytes (addr - c.page_size) (big_bytes width value);
      counts = m.counts;
      blocks = m.blocks;
    }

pub page_inside : (c : Config) (m : Memory) (page : ℕ) → length m.bytes ≡ heap_len c → 1 ≤ page
    → page < c.pages → page * c.page_size - c.page_size + c.page_size ≤ length m.bytes
page_inside c m page e from to =
    let last =
    mul-le (page + 1) c.page_size c.pages c.page_size (omega (arith, to)) (omega arith) in
    let split : (page + 1) * c.page_size ≡ page * c.page_size + c.page_size = grind arith in
    omega (arith, last, split, e, mul-le 1 c.page_size page c.page_size from (omega arith))

-- a word written to a page
pub write_by_page : (c : Config) (m : Memory) (width addr value : ℕ) → length m.bytes ≡ heap_len c
    → IsPlaced c width addr
    → flat_page c (with_word c m width addr value) (addr / c.page_size)
    ≡ overwrite (flat_page c m (addr / c.page_size)) (addr % c.page_size) (big_bytes width value)
write_by_page c m width addr value e h =
    let size : ℕ = c.page_size in
    let page : ℕ = addr / size in
    let from : ℕ = page * size - size in
    let new : List ℕ = big_bytes width value in
    let place : addr - size ≡ from + addr % size = omega (arith, h.split, h.start) in
    flat_page-heap c (with_word c m width addr value) page h.page_from
    ∙ ap (λ n. take size (drop from (overwrite m.bytes n new))) place
    ∙ piece-overwrite m.bytes new from size (addr % size)
    (page_inside c m page e h.page_from h.page_to)
    (omega (arith, h.within, length-bytes_high_first width value))
    ∙ ap (λ p. overwrite p (addr % size) new) (sym (flat_page-heap c m page h.page_from))

-- and what it leaves of another page
pub write_elsewhere : (c : Config) (m : Memory) (width addr value page : ℕ)
    → length m.bytes ≡ heap_len c → IsPlaced c width addr → page < c.pages
    → (page ≡ addr / c.page_size → ⊥)
    → flat_page c (with_word c m width addr value) page ≡ flat_page c m page
write_elsewhere c m width addr value zero e h to other = refl
write_elsewhere c m width addr value (suc k) e h to other =
    let size : ℕ = c.page_size in
    let page : ℕ = suc k in
    let own : ℕ = addr / size in
    let at : ℕ = addr - size in
    let new : List ℕ = big_bytes width value in
    let long : length new ≡ width = length-bytes_high_first width value in
    let from : 1 ≤ page = omega arith in
    let inside = page_inside c m page e from to in
    let start = mul-le 1 size page size from (omega arith) in
    let fits : at + length new ≤ own * size - size + size =
    omega (arith, h.split, h.within, long, h.start) in
    flat_page-heap c (with_word c m width addr value) page from
    ∙ elim (cases_order page own) [
      | inl same ↦ absurd (other same)
      | inr apart ↦ elim apart [
        | inl below ↦
            let next : (page + 1) * size ≤ own * size =
            mul-le (page + 1) size own size (omega (arith, below)) (omega arith) in
            let split : (page + 1) * size ≡ page * size + size = grind arith in
            piece-overwrite_after m.bytes new (page * size - size) size at
            (omega (arith, fits, page_inside c m own e h.page_from h.page_to))
            (omega (arith, next, split, start, h.split, h.start))
        | inr above ↦
            let next : (own + 1) * size ≤ page * size =
            mul-le (own + 1) size page size (omega (arith, above)) (omega arith) in
            let split : (own + 1) * size ≡ own * size + size = grind arith in
            piece-overwrite_before m.bytes new (page * size - size) size at inside
            (omega (arith, next, split, fits, h.start))
      ]
    ]
    ∙ sym (flat_page-heap c m page from)

-- at first all pages are zeros
pub first_page : (c : Config) (page : ℕ) → 1 ≤ page → page < c.pages
    → flat_page c (first c) page ≡ replicate c.page_size 0
first_page c page from to =
    let size : ℕ = c.page_size in
    let inside = page_inside c (first c) page (length-replicate {A = ℕ} (heap_len c) 0) from to in
    let long = length-replicate {A = ℕ} (heap_len c) 0 in
    flat_page-heap c (first c) page from
    ∙ ap (take size) (drop-replicate (page * size - size) (heap_len c) 0)
    ∙ take-replicate size (heap_len c - (page * size - size)) 0 (omega (arith, inside, long))

pub length-page : (c : Config) (m : Memory) (page : ℕ) → length m.bytes ≡ heap_len c → 1 ≤ page
    → page < c.pages → length (flat_page c m page) ≡ c.page_size
length-page c m page e from to =
    let size : ℕ = c.page_size in
    let inside = page_inside c m page e from to in
    ap length (flat_page-heap c m page from)
    ∙ length-take-le size (drop (page * size - size) m.bytes)
    (omega (arith, inside, length-drop (page * size - size) m.bytes))
