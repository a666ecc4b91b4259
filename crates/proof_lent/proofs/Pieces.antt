-- Bytes of a page of the heap, read and written within it.
use Rattle.std.proofs.Common.{◌≡◌, ◌≢◌, ℕ, ◌+◌, ◌-◌, ◌*◌, ◌<◌, ◌≤◌, List, length, take, drop, sym, ap, ◌∙◌, arith, inl, inr}
use Rattle.std.proofs.lemmas.Bool.{cases_order}
use Rattle.std.proofs.lemmas.List.{places, same_lists}
use Rattle.std.proofs.lemmas.Nat.{mul-le}
use Rattle.ivy_model.specs.declared.Config.{Config}
use Rattle.ivy_model.specs.stated.Config.{heap_len}
use Rattle.ivy_model.specs.stated.Memory.{Memory}
use Rattle.ivy_model.specs.stated.Serves.{overwrite}
use Rattle.ivy_model.specs.Memory.{flat_page}
use Rattle.ivy_model.proofs.Lists.{piece-overwrite, piece-overwrite_before, piece-overwrite_after, length-overwrite}
use Rattle.ivy_model.proofs.PageWords.{flat_page-heap, page_inside}

-- the memory with these bytes in its heap
abbrev pub with_bytes : Memory → List ℕ → Memory
with_bytes m bytes = record { bytes = bytes; counts = m.counts; blocks = m.blocks }

-- pages of the heap are their bytes
pub page-same : (c : Config) (m n : Memory) (page : ℕ) → 1 ≤ page → m.bytes ≡ n.bytes
    → flat_page c m page ≡ flat_page c n page
page-same c m n page from same =
    flat_page-heap c m page from
    ∙ ap (λ bs. take c.page_size (drop (page * c.page_size - c.page_size) bs)) same
    ∙ sym (flat_page-heap c n page from)

-- the bytes of a piece of a piece
piece-take : (xs : List ℕ) (k n at len : ℕ) → k + n ≤ length xs → at + len ≤ n
    → take len (drop at (take n (drop k xs))) ≡ take len (drop (k + at) xs)
piece-take xs k n at len h l =
    same_lists _ _ (grind (arith, places)) (λ i d h'. grind (arith, places))

module _ (c : Config) (m : Memory) (sized : length m.bytes ≡ heap_len c) (page : ℕ) (from : 1 ≤ page)
    (to : page < c.pages) (offset : ℕ) where
  abbrev size : ℕ
  size = c.page_size

  -- where the page begins, and the place in it
  abbrev start : ℕ
  start = page * size - size

  abbrev place : ℕ
  place = page * size + offset - size

  place-is : place ≡ start + offset
  place-is = let least = mul-le 1 size page size from (omega arith) in omega (arith, least)

  pub piece-read : (len : ℕ) → offset + len ≤ size
      → take len (drop offset (flat_page c m page)) ≡ take len (drop place m.bytes)
  piece-read len within =
      ap (λ bs. take len (drop offset bs)) (flat_page-heap c m page from)
      ∙ piece-take m.bytes start size offset len (page_inside c m page sized from to) within
      ∙ ap (λ k. take len (drop k m.bytes)) (sym place-is)

  module _ (put : List ℕ) (within : offset + length put ≤ size) where
    abbrev after : Memory
    after = with_bytes m (overwrite m.bytes place put)

    pub piece-written : flat_page c after page ≡ overwrite (flat_page c m page) offset put
    piece-written =
        flat_page-heap c after page from
        ∙ ap (λ k. take size (drop start (overwrite m.bytes k put))) place-is
        ∙ piece-overwrite m.bytes put start size offset (page_inside c m page sized from to) within
        ∙ ap (λ bs. overwrite bs offset put) (sym (flat_page-heap c m page from))

    pub written-long : length (overwrite m.bytes place put) ≡ heap_len c
    written-long =
        let inside = page_inside c m page sized from to in
        let at = place-is in
        length-overwrite m.bytes place put (omega (arith, inside, at, within)) ∙ sized

    pub written-elsewhere : (q : ℕ) → 1 ≤ q → q < c.pages → q ≢ page
        → flat_page c after q ≡ flat_page c m q
    written-elsewhere q first last other =
        let least = mul-le 1 size page size from (omega arith) in
        let first_least = mul-le 1 size q size first (omega arith) in
        let own = page_inside c m page sized from to in
        let inside = page_inside c m q sized first last in
        let at = place-is in
        flat_page-heap c after q first
        ∙ elim (cases_order q page) [
          | inl same ↦ absurd (other same)
          | inr apart ↦ elim apart [
            | inl below ↦
                let next : (q + 1) * size ≤ page * size =
                mul-le (q + 1) size page size (omega (arith, below)) (omega arith) in
                let split : (q + 1) * size ≡ q * size + size = grind arith in
                piece-overwrite_after m.bytes put (q * size - size) size place
                (omega (arith, at, own, within)) (omega (arith, next, split, first_least, least, at))
            | inr above ↦
                let next : (page + 1) * size ≤ q * size =
                mul-le (page + 1) size q size (omega (arith, above)) (omega arith) in
                let split : (page + 1) * size ≡ page * size + size = grind arith in
                piece-overwrite_before m.bytes put (q * size - size) size place inside
                (omega (arith, next, split, within, least, first_least, at))
          ]
        ]
        ∙ sym (flat_page-heap c m q first)
