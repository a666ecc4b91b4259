-- The counts as the words of page 0.
use Rattle.std.proofs.Common.{◌≡◌, ℕ, zero, suc, ◌+◌, ◌*◌, ◌^◌, ◌<◌, List, [], ◌∷◌, ◌++◌, length, drop, replicate, Some, refl, sym, ap, ◌∙◌, arith}
use Rattle.std.proofs.lemmas.List.{drop-drop, replicate-append-replicate}
use Rattle.std.specs.List.{flat_map}
use Rattle.std.specs.Prelude.{slice_get, slice_set}
use Rattle.byteorder.specs.Endian.{big_number, big_bytes}
use Rattle.byteorder.specs.Numbers.{big_number-reads_back}
use Rattle.ivy_model.specs.stated.Serves.{overwrite}
use Rattle.ivy_model.proofs.Lists.{overwrite-append}

pub length-words : (ns : List ℕ) → length (flat_map (big_bytes 8) ns) ≡ 8 * length ns
length-words [] = refl
length-words (n ∷ ns) = omega (arith, length-words ns)

-- page 0 from the word of a count on
words_from : (ns : List ℕ) (k n : ℕ) → slice_get ns k ≡ Some n
    → (rest : List ℕ) × (drop (8 * k) (flat_map (big_bytes 8) ns) ≡ big_bytes 8 n ++ rest)
words_from [] k n e = absurd (cc e)
words_from (x ∷ xs) zero n e =
    (flat_map (big_bytes 8) xs, ap (λ a. big_bytes 8 a ++ flat_map (big_bytes 8) xs) (cc e))
words_from (x ∷ xs) (suc k) n e =
    let next = words_from xs k n e in
    let place : 8 + 8 * k ≡ 8 * suc k = omega arith in (
      next.0,
      ap (λ i. drop i (flat_map (big_bytes 8) (x ∷ xs))) (sym place)
          ∙ sym (drop-drop (8 * k) 8 (flat_map (big_bytes 8) (x ∷ xs))) ∙ next.1,
    )

-- a count read from page 0
pub read_count : (ns : List ℕ) (k n : ℕ) → slice_get ns k ≡ Some n → n < 2 ^ 64
    → big_number 8 (drop (8 * k) (flat_map (big_bytes 8) ns)) ≡ n
read_count ns k n e small =
    let words = words_from ns k n e in
    ap (big_number 8) words.1 ∙ big_number-reads_back 8 n words.0 (omega (arith, small))

-- a count written to page 0
pub write_count : (ns : List ℕ) (k n : ℕ) → k < length ns
    → flat_map (big_bytes 8) (slice_set ns k n)
    ≡ overwrite (flat_map (big_bytes 8) ns) (8 * k) (big_bytes 8 n)
write_count [] k n h = absurd (omega (arith, h))
write_count (x ∷ xs) zero n h = refl
write_count (x ∷ xs) (suc k) n h =
    let place : 8 + 8 * k ≡ 8 * suc k = omega arith in
    let words : List ℕ = flat_map (big_bytes 8) xs in
    ap (λ rest. big_bytes 8 x ++ rest) (write_count xs k n (omega (arith, h)))
    ∙ sym (overwrite-append (big_bytes 8 x) words (big_bytes 8 n) (8 * k)
    (omega (arith, length-words xs, h)))
    ∙ ap (λ at. overwrite (big_bytes 8 x ++ words) at (big_bytes 8 n)) place

-- at first all counts are zeros
pub zero_words : (k : ℕ) → flat_map (big_bytes 8) (replicate k 0) ≡ replicate (8 * k) 0
zero_words zero = refl
zero_words (suc k) =
    let more : 8 + 8 * k ≡ 8 * suc k = omega arith in
    ap (λ rest. big_bytes 8 0 ++ rest) (zero_words k) ∙ replicate-append-replicate 8 (8 * k) 0
    ∙ ap (λ n. replicate n 0) more
