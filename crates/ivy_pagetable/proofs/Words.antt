-- Carrying out a word keeps the length of its page, and a page of bytes stays one. A word that was
-- carried out is taken back by storing the number that stood there.
use Rattle.std.proofs.Common.{◌≡◌, ℕ, zero, suc, ◌+◌, ◌-◌, ◌*◌, ◌/◌, ◌%◌, ◌^◌, ◌<◌, ◌≤◌, Bool, true}
use Rattle.std.proofs.Common.{false, List, [], ◌∷◌, ◌++◌, slice_index, length, take, drop, All}
use Rattle.std.proofs.Common.{◌==◌, if◌then◌else◌, nat_le, Option, Some, None, refl, sym, ap, ◌∙◌, arith, inl, inr}
use Rattle.std.proofs.Common.{length-append, length-drop, mod-lt}
use Rattle.std.proofs.Math.Nat.{div-one, mod-eq_of_lt, mul-add-div_right, mul-add-mod_self_right, mul_assoc, pow-succ'}
use Rattle.std.proofs.lemmas.Bool.{cases_lt, leb-false}
use Rattle.std.proofs.lemmas.List.{get_or_past, length-take-le, places, same_lists}
use Rattle.std.proofs.lemmas.List.Elements.{All-nil, All-cons, All-head, All-tail, All-get_or, All-append, All-take, All-drop}
use Rattle.std.proofs.lemmas.Nat.{div-mul-add, pow-add}
use Rattle.std.specs.Int.{byte_at}
use Rattle.byteorder.specs.Endian.{big_number, big_bytes}
use Rattle.byteorder.specs.Numbers.{big_from-cons, big_from-lt, length-bytes_high_first}
use Rattle.ivy_model.specs.declared.Act.{Act}
use Rattle.ivy_model.specs.declared.Act.TheVariants as act
use Rattle.ivy_model.specs.stated.Serves.{overwrite}
use Rattle.ivy_pagetable.specs.declared.word.Word.{Word}
use Rattle.ivy_pagetable.specs.declared.word.Word.TheVariants.{Load, Store, Count, Advance, Await}
use Rattle.ivy_pagetable.specs.declared.word.Outcome.{Outcome}
use Rattle.ivy_pagetable.specs.declared.word.Out.TheVariants.{Value, Full, Done, NotYet}
use Rattle.ivy_pagetable.specs.stated.Words.{IsWord, access_outcome, carried, carried_out, needs_write, number_at, outcome_of, width_of, offset_of, with_number, word_with}

pub length-overwrite : (bytes new : List ℕ) (at : ℕ) → at + length new ≤ length bytes
    → length (overwrite bytes at new) ≡ length bytes
length-overwrite bytes new at le =
    omega (
      arith,
      le,
      length-append (take at bytes) (new ++ drop (at + length new) bytes),
      length-append new (drop (at + length new) bytes),
      length-take-le at bytes (omega (arith, le)),
      length-drop (at + length new) bytes,
    )

written : (bytes : List ℕ) (n x at : ℕ) → at + n ≤ length bytes
    → length (overwrite bytes at (big_bytes n x)) ≡ length bytes
written bytes n x at le =
    length-overwrite bytes (big_bytes n x) at (omega (arith, le, length-bytes_high_first n x))

length-with_number : (width offset : ℕ) (next : Option ℕ) (bytes : List ℕ)
    → offset + width ≤ length bytes
    → length (with_number width offset next bytes) ≡ length bytes
length-with_number width offset None bytes le = refl
length-with_number width offset (Some value) bytes le = written bytes width value offset le

-- the page keeps its length
pub length-carried_out : (word : Word) (bytes : List ℕ) → IsWord (length bytes) word
    → length (carried_out word bytes).bytes ≡ length bytes
length-carried_out word bytes h =
    length-with_number (width_of word) (offset_of word)
    (outcome_of word (number_at (width_of word) (offset_of word) bytes)).next bytes h.within

-- and stays one of bytes
byte_low : (i x : ℕ) → byte_at i x < 256
byte_low zero x = mod-lt x (omega arith)
byte_low (suc i) x = mod-lt _ (omega arith)

bytes_low : (n x : ℕ) → All (λ b. b < 256) (big_bytes n x)
bytes_low zero x = All-nil (λ b. b < 256)
bytes_low (suc n) x =
    All-cons (λ b. b < 256) (byte_at n x) (big_bytes n x) (byte_low n x) (bytes_low n x)

overwritten : (bytes : List ℕ) (n x at : ℕ) → All (λ b. b < 256) bytes
    → All (λ b. b < 256) (overwrite bytes at (big_bytes n x))
overwritten bytes n x at all =
    All-append (λ b. b < 256) (take at bytes)
    (big_bytes n x ++ drop (at + length (big_bytes n x)) bytes)
    (All-take (λ b. b < 256) at bytes all)
    (All-append (λ b. b < 256) (big_bytes n x) (drop (at + length (big_bytes n x)) bytes)
    (bytes_low n x) (All-drop (λ b. b < 256) (at + length (big_bytes n x)) bytes all))

bytes-with_number : (width offset : ℕ) (next : Option ℕ) (bytes : List ℕ)
    → All (λ b. b < 256) bytes → All (λ b. b < 256) (with_number width offset next bytes)
bytes-with_number width offset None bytes all = all
bytes-with_number width offset (Some value) bytes all = overwritten bytes width value offset all

pub bytes-carried_out : (word : Word) (bytes : List ℕ) → All (λ b. b < 256) bytes
    → All (λ b. b < 256) (carried_out word bytes).bytes
bytes-carried_out word bytes all =
    bytes-with_number (width_of word) (offset_of word)
    (outcome_of word (number_at (width_of word) (offset_of word) bytes)).next bytes all

-- the lowest n bytes of a number are those of what it is above a multiple of 256 ^ n
byte_at-pow : (k x : ℕ) → byte_at k x ≡ x / 256 ^ k % 256
byte_at-pow zero x = ap (λ (y : ℕ). y % 256) (sym (div-one x))
byte_at-pow (suc k) x = refl

pow_256 : (k : ℕ) → 0 < 256 ^ k
pow_256 zero = omega arith
pow_256 (suc k) = omega (arith, pow-succ' 256 k, pow_256 k)

low_byte : (d k a r : ℕ) → byte_at k (a * 256 ^ (d + suc k) + r) ≡ byte_at k r
low_byte d k a r =
    let power : a * 256 ^ (d + suc k) ≡ a * 256 ^ d * 256 * 256 ^ k =
    ap (λ (y : ℕ). a * y) (pow-add 256 d (suc k) ∙ ap (λ (y : ℕ). 256 ^ d * y) (pow-succ' 256 k))
    ∙ sym (mul_assoc a (256 ^ d) (256 * 256 ^ k)) ∙ sym (mul_assoc (a * 256 ^ d) 256 (256 ^ k)) in
    byte_at-pow k (a * 256 ^ (d + suc k) + r) ∙ ap (λ (y : ℕ). (y + r) / 256 ^ k % 256) power
    ∙ ap (λ (y : ℕ). y % 256) (mul-add-div_right (pow_256 k) (a * 256 ^ d * 256) r)
    ∙ mul-add-mod_self_right (a * 256 ^ d) 256 (r / 256 ^ k) ∙ sym (byte_at-pow k r)

low_bytes : (k n a r : ℕ) → k ≤ n → big_bytes k (a * 256 ^ n + r) ≡ big_bytes k r
low_bytes zero n a r le = refl
low_bytes (suc k) n a r le =
    let split : n ≡ n - suc k + suc k = omega (arith, le) in
    ap (λ b. b ∷ big_bytes k (a * 256 ^ n + r))
    (ap (λ (m : ℕ). byte_at k (a * 256 ^ m + r)) split ∙ low_byte (n - suc k) k a r)
    ∙ ap (λ bs. byte_at k r ∷ bs) (low_bytes k n a r (omega (arith, le)))

each_low : (bytes : List ℕ) → All (λ b. b < 256) bytes → (k : ℕ) → slice_index bytes k < 256
each_low bytes all k =
    elim (cases_lt k (length bytes)) [
      | inl lt ↦ All-get_or (λ b. b < 256) bytes k 0 lt all
      | inr le ↦ omega (arith, get_or_past bytes k 0 le)
    ]

-- the bytes of the number that was read from bytes
pub bytes_of_number : (n : ℕ) (bytes : List ℕ) → n ≤ length bytes → All (λ b. b < 256) bytes
    → big_bytes n (big_number n bytes) ≡ take n bytes
bytes_of_number zero bytes le all = refl
bytes_of_number (suc n) [] le all = absurd (omega (arith, le))
bytes_of_number (suc n) (b ∷ bytes) le all =
    let rest : List ℕ = big_bytes n (b * 256 ^ n + big_number n bytes) in
    let high : b < 256 = All-head (λ b. b < 256) b bytes all in
    let low = All-tail (λ b. b < 256) b bytes all in
    ap (λ (x : ℕ). big_bytes (suc n) (b * 256 ^ n + x)) (big_from-cons 0 n b bytes)
    ∙ ap (λ (x : ℕ). x ∷ rest)
    (byte_at-pow n (b * 256 ^ n + big_number n bytes)
    ∙ ap (λ (x : ℕ). x % 256)
    (div-mul-add b (256 ^ n) (big_number n bytes) (big_from-lt 0 n bytes (each_low bytes low)))
    ∙ mod-eq_of_lt high)
    ∙ ap (λ xs. b ∷ xs)
    (low_bytes n n b (big_number n bytes) (omega arith)
    ∙ bytes_of_number n bytes (omega (arith, le)) low)

-- a write over another of the same length, and a write of what stood there
written_over : (bytes new old : List ℕ) (at : ℕ) → at + length new ≤ length bytes
    → length old ≡ length new → overwrite (overwrite bytes at new) at old ≡ overwrite bytes at old
written_over bytes new old at le same =
    same_lists _ _ (grind (arith, places)) (λ i d h. grind (arith, places))

written_back : (bytes : List ℕ) (at n : ℕ) → at + n ≤ length bytes
    → overwrite bytes at (take n (drop at bytes)) ≡ bytes
written_back bytes at n le = same_lists _ _ (grind (arith, places)) (λ i d h. grind (arith, places))

number_back : (bytes : List ℕ) (n at : ℕ) → at + n ≤ length bytes → All (λ b. b < 256) bytes
    → overwrite bytes at (big_bytes n (number_at n at bytes)) ≡ bytes
number_back bytes n at le all =
    ap (overwrite bytes at)
    (bytes_of_number n (drop at bytes) (omega (arith, le, length-drop at bytes))
    (All-drop (λ b. b < 256) at bytes all))
    ∙ written_back bytes at n le

store_back : (bytes : List ℕ) (n at x : ℕ) → at + n ≤ length bytes → All (λ b. b < 256) bytes
    → overwrite (overwrite bytes at (big_bytes n x)) at (big_bytes n (number_at n at bytes)) ≡ bytes
store_back bytes n at x le all =
    let new = length-bytes_high_first n x in
    let old = length-bytes_high_first n (number_at n at bytes) in
    written_over bytes (big_bytes n x) (big_bytes n (number_at n at bytes)) at
    (omega (arith, le, new)) (omega (arith, new, old))
    ∙ number_back bytes n at le all

put_back : (next : Option ℕ) (bytes : List ℕ) (n at : ℕ) → at + n ≤ length bytes
    → All (λ b. b < 256) bytes
    → overwrite (with_number n at next bytes) at (big_bytes n (number_at n at bytes)) ≡ bytes
put_back None bytes n at le all = number_back bytes n at le all
put_back (Some value) bytes n at le all = store_back bytes n at value le all

-- a word that was carried out is taken back by storing the number that stood there
pub taken_back : (word : Word) (bytes : List ℕ) → IsWord (length bytes) word
    → All (λ b. b < 256) bytes
    → (carried_out
    (Store (width_of word) (offset_of word) (number_at (width_of word) (offset_of word) bytes))
    (carried_out word bytes).bytes).bytes ≡ bytes
taken_back word bytes h all =
    put_back (outcome_of word (number_at (width_of word) (offset_of word) bytes)).next bytes
    (width_of word) (offset_of word) h.within all

-- the word of an access
pub width-word_with : (width offset : ℕ) (a : Act) → width_of (word_with width offset a) ≡ width
width-word_with width offset act.Load = refl
width-word_with width offset a = refl

pub offset-word_with : (width offset : ℕ) (a : Act) → offset_of (word_with width offset a) ≡ offset
offset-word_with width offset act.Load = refl
offset-word_with width offset a = refl

-- does what the access does
pub carried-word_with : (width offset : ℕ) (a : Act) (bytes : List ℕ)
    → carried_out (word_with width offset a) bytes
    ≡ carried width offset (access_outcome width a (number_at width offset bytes)) bytes
carried-word_with width offset act.Load bytes = refl
carried-word_with width offset a bytes = refl

-- a word that needs no access to write puts no number in its place
pub unwritten : (word : Word) (n : ℕ) → needs_write word ≡ false → (outcome_of word n).next ≡ None
unwritten (Load width offset) n h = refl
unwritten (Count offset) n h = refl
unwritten (Await offset least) n h = refl
unwritten word n h = absurd cc

pub unwritten_bytes : (word : Word) (bytes : List ℕ) → needs_write word ≡ false
    → (carried_out word bytes).bytes ≡ bytes
unwritten_bytes word bytes reads =
    ap (λ (next : Option ℕ). with_number (width_of word) (offset_of word) next bytes)
    (unwritten word (number_at (width_of word) (offset_of word) bytes) reads)

-- a word that has no answer yet is an await of more than the number there
pub record IsNotYet (word : Word) (n : ℕ) : Type 0 where
  pub offset : ℕ
  pub least : ℕ
  pub is : word ≡ Await offset least
  pub below : n < least

waits_advanced : (b : Bool) (n : ℕ)
    → (let o : Outcome = if b then record { out = Full; next = None }
    else record { out = Done; next = Some n } in o.out ≡ NotYet → ⊥)
waits_advanced true n h = cc
waits_advanced false n h = cc

waits_awaited : (n least : ℕ) (b : Bool) → nat_le least n ≡ b
    → (if b then Value n else NotYet) ≡ NotYet → n < least
waits_awaited n least true e h = absurd cc
waits_awaited n least false e h = leb-false least n e

pub not_yet : (word : Word) (n : ℕ) → (outcome_of word n).out ≡ NotYet → IsNotYet word n
not_yet (Await offset least) n h = record {
  offset = offset;
  least = least;
  is = refl;
  below = waits_awaited n least (nat_le least n) refl h;
}
not_yet (Advance offset) n h = absurd (waits_advanced (n == 2 ^ 64 - 1) (n + 1) h)
not_yet word n h = absurd cc
