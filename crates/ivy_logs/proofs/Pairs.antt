-- Bytes that are read from digits, one after another, and whether all were digits.
use Rattle.std.proofs.Common.{◌≡◌, ◌∙◌, ℕ, ◌+◌, ◌*◌, ◌%◌, ◌<◌, ◌≤◌, ◌⊎◌, inl, inr, nat_lt, bit_or, List, length, take, drop, slice_index, slice_set, Option, Some, None, Ok, Err, MatchBool, MatchOption, refl, sym, ap, arith}
use Rattle.std.specs.Prelude.{IsErr}
use Rattle.std.proofs.lemmas.Nat.{le_or_l, le_or_r, or_lt}
use Rattle.std.proofs.lemmas.Grind.{or_after_shift}
use Rattle.std.proofs.lemmas.Bool.{cases_lt, le-ltb, lt-ltb}
use Rattle.hex.specs.Hex.{decode_pairs, hex_digit_value, pair_value}
use Rattle.hex.specs.declared.error.FromHexError.{FromHexError}
use Rattle.hex.specs.declared.error.FromHexError.TheVariants.{InvalidHexCharacter}
use Rattle.hex.proofs.Pairs.{prepend, decode_step, decode_err, decode_done}
use Rattle.ivy_logs.specs.Digits.{IsHalf}

-- so many bytes were read, or the digits are of no bytes
abbrev pub IsRead : List ℕ → List ℕ → ℕ → ℕ → Type 0
IsRead digits places at all =
    ((all < 16) × (decode_pairs 0 digits
    ≡ prepend (take at places) (decode_pairs (2 * at) (drop (2 * at) digits))))
    ⊎ ((16 ≤ all) × IsErr (decode_pairs 0 digits))

value_small : (c v : ℕ) → hex_digit_value c ≡ Some v → v < 16
value_small c v h = grind (arith)

half_some : (o : Option ℕ) (half : ℕ) → MatchOption o (16 ≤ half) (λ v. half ≡ v) → half < 16
    → o ≡ Some half
half_some (Some v) half h small = ap Some (sym h)
half_some None half h small = absurd (omega (arith, h))

half_none : (c half : ℕ) → (o : Option ℕ) → hex_digit_value c ≡ o
    → MatchOption o (16 ≤ half) (λ v. half ≡ v) → 16 ≤ half → o ≡ None
half_none c half (Some v) e h large = let small = value_small c v e in absurd (omega (arith, h))
half_none c half None e h large = refl

-- two digits
pair_good : (a b i high low : ℕ) → IsHalf a high → IsHalf b low → high < 16 → low < 16
    → pair_value a b i ≡ Ok (high * 16 + low)
pair_good a b i high low ha hb sa sb =
    rw (half_some (hex_digit_value a) high ha sa, half_some (hex_digit_value b) low hb sb) refl

-- two of which one is none
pair_bad : (a b i high low : ℕ) → IsHalf a high → IsHalf b low → (16 ≤ high) ⊎ (16 ≤ low)
    → (e : FromHexError) × (pair_value a b i ≡ Err e)
pair_bad a b i high low ha hb bad =
    elim (cases_lt high 16) [
      | inl small ↦
          let large : 16 ≤ low = elim bad [
            | inl h ↦ absurd (omega (arith, h, small))
            | inr l ↦ l
          ] in (
            InvalidHexCharacter b (i + 1),
            rw (
              half_some (hex_digit_value a) high ha small,
              half_none b low (hex_digit_value b) refl hb large,
            ) refl,
          )
      | inr large ↦ (
        InvalidHexCharacter a i,
        rw (half_none a high (hex_digit_value a) refl ha large) refl,
      )
    ]

-- the byte of two halves
both : (high low : ℕ) → high < 16 → low < 16 → bit_or (high * 16 % 256) low ≡ high * 16 + low
both high low sh sl = or_after_shift high 16 256 low refl sl (omega arith)

module _ (digits places : List ℕ) (at all high low : ℕ) (fits : 2 * at + 1 < length digits)
    (room : at < length places) (high_is : IsHalf (slice_index digits (2 * at)) high)
    (low_is : IsHalf (slice_index digits (2 * at + 1)) low) where
  abbrev pub byte : ℕ
  byte = bit_or (high * 16 % 256) low

  abbrev pub every : ℕ
  every = bit_or (bit_or all high) low

  -- of these two one is none
  no_more : decode_pairs 0 digits ≡ prepend (take at places) (decode_pairs (2 * at) (drop (2 * at) digits))
      → (16 ≤ high) ⊎ (16 ≤ low) → IsRead digits (slice_set places at byte) (at + 1) every
  no_more so_far bad =
      let refused = pair_bad (slice_index digits (2 * at)) (slice_index digits (2 * at + 1)) (2 * at)
      high low high_is low_is bad in
      let many : 16 ≤ every = elim bad [
        | inl h ↦ omega (arith, h, le_or_r all high, le_or_l (bit_or all high) low)
        | inr l ↦ omega (arith, l, le_or_r (bit_or all high) low)
      ] in
      let none = decode_err digits places at refused.0 fits refused.1 so_far in
      inr (many, rw none refl)

  -- two digits more
  pub read_more : IsRead digits places at all
      → IsRead digits (slice_set places at byte) (at + 1) every
  read_more (inr (bad, none)) =
      inr (omega (arith, bad, le_or_l all high, le_or_l (bit_or all high) low), none)
  read_more (inl (good, so_far)) =
      elim (cases_lt high 16) [
        | inr large ↦ no_more so_far (inl large)
        | inl sh ↦
            elim (cases_lt low 16) [
              | inr large ↦ no_more so_far (inr large)
              | inl sl ↦ inl (
                or_lt 4 (bit_or all high) low (or_lt 4 all high good sh) sl,
                decode_step digits places at byte fits room
                    (pair_good (slice_index digits (2 * at)) (slice_index digits (2 * at + 1)) (2 * at) high low
                    high_is low_is sh sl ∙ ap Ok (sym (both high low sh sl)))
                    so_far,
              )
            ]
      ]

-- no digit is left
pub read_all : (digits places : List ℕ) (at all : ℕ) → length digits ≡ 2 * length places
    → length places ≤ at → IsRead digits places at all
    → MatchBool (nat_lt all 16) (decode_pairs 0 digits ≡ Ok places) (IsErr (decode_pairs 0 digits))
read_all digits places at all twice end (inl (good, so_far)) =
    rw (lt-ltb all 16 good) (decode_done digits places at end (omega (arith, twice, end)) so_far)
read_all digits places at all twice end (inr (bad, none)) = rw (le-ltb all 16 bad) none
