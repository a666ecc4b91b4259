-- Digits are a text.
use Rattle.std.proofs.Common.{◌≡◌, ℕ, Bool, true, ◌&&◌, List, [], ◌∷◌, nat_lt, Result, Ok, Err, MatchResult, refl}
use Rattle.std.specs.Prelude.{IsOk}
use Rattle.std.specs.Str.{IsAscii, IsUtf8}
use Rattle.std.proofs.lemmas.Bool.{and_parts, ltb-true}
use Rattle.std.proofs.lemmas.Str.{IsUtf8-from_ascii}
use Rattle.std.proofs.lemmas.Str.Ascii.{IsAscii-nil, IsAscii-cons}
use Rattle.hex.specs.Hex.{encode_lower, lower_digits}
use Rattle.hex.proofs.HexLemmas.{IsAscii-encode_with}

are_ascii : List ℕ → Bool
are_ascii [] = true
are_ascii (b ∷ bs) = nat_lt b 128 && are_ascii bs

ascii_from_test : (bs : List ℕ) → are_ascii bs ≡ true → IsAscii bs
unfolding are_ascii
ascii_from_test [] h = IsAscii-nil
ascii_from_test (b ∷ bs) h =
    let parts = and_parts (nat_lt b 128) (are_ascii bs) h in
    IsAscii-cons b bs (ltb-true b 128 parts.0) (ascii_from_test bs parts.1)

pub digits_are_text : (bytes : List ℕ) → IsUtf8 (encode_lower bytes)
unfolding are_ascii
digits_are_text bytes =
    IsUtf8-from_ascii (encode_lower bytes)
    (IsAscii-encode_with lower_digits bytes (ascii_from_test lower_digits refl))

-- what tells text from no text, of digits
pub digits_read : (bytes bs : List ℕ) {T E : Type 0} (r : Result T E) (P : T → Type 0) (Q : E → Type 0)
    → bs ≡ encode_lower bytes → MatchResult r P (λ e. (¬ (IsUtf8 bs)) × Q e) → IsOk r
digits_read bytes bs (Ok t) P Q same h = refl
digits_read bytes bs (Err e) P Q same h = absurd (h.0 (rw same (digits_are_text bytes)))
