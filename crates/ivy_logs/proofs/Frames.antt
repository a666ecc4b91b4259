-- The words of a frame's line as it is written.
use Rattle.std.proofs.Common.{◌≡◌, ◌∙◌, ℕ, suc, ◌+◌, ◌-◌, ◌<◌, ◌==◌, nat_lt, Bool, true, false, List, [], ◌∷◌, ◌++◌, All, Option, Some, None, Result, Ok, Err, IfOk, IfSome, length, take, drop, slice_index, refl, sym, ap, arith}
use Rattle.std.specs.List.{filter, AllPass, position_or_len}
use Rattle.std.specs.Str.Parse.{AllDigits}
use Rattle.std.proofs.lemmas.Bool.{lt-ltb, ne_eqb}
use Rattle.std.proofs.lemmas.List.{drop_more, get_or-append-add, length-append, take-append-drop, take_all}
use Rattle.std.proofs.lemmas.List.Elements.{All-append, All-cons, All-get_or, All-head, All-nil, All-tail}
use Rattle.std.proofs.lemmas.List.Splits.{slice_split_none, slice_split_at}
use Rattle.std.proofs.lemmas.List.Sums.{position_or_len_is}
use Rattle.hex.specs.Hex.{is_hex_digit}
use Rattle.hex.proofs.HexLemmas.{decode_of-ok}
use Rattle.ivy_program.specs.texts.TextWords.{is_blank, parted_words, words_of, without_comment, without_end}
use Rattle.ivy_logs.specs.Spelled.{SpellsFrame}

-- what stands in numbers and in digits, and nothing that parts words or ends them
abbrev pub IsDigit : ℕ → Type 0
IsDigit b = 35 < b

digit_large : (c : ℕ) → is_hex_digit c ≡ true → IsDigit c
digit_large c h = grind (arith)

pub number_large : (cs : List ℕ) → AllDigits 10 cs → All IsDigit cs
number_large [] h = All-nil IsDigit
number_large (c ∷ cs) h = All-cons IsDigit c cs (grind (arith, h)) (number_large cs h.1)

pub digits_large : (cs : List ℕ) → AllPass is_hex_digit cs → All IsDigit cs
digits_large [] h = All-nil IsDigit
digits_large (c ∷ cs) h =
    All-cons IsDigit c cs (digit_large c (All-head (λ x. is_hex_digit x ≡ true) c cs h))
    (digits_large cs (All-tail (λ x. is_hex_digit x ≡ true) c cs h))

no_blanks : (cs : List ℕ) → All IsDigit cs → All (λ b. is_blank b ≡ false) cs
no_blanks [] h = All-nil (λ b. is_blank b ≡ false)
no_blanks (c ∷ cs) h =
    let large = All-head IsDigit c cs h in
    All-cons (λ b. is_blank b ≡ false) c cs (grind (arith, large)) (no_blanks cs (All-tail IsDigit c cs h))

no_marks : (cs : List ℕ) → All IsDigit cs → All (λ b. b == 35 ≡ false) cs
no_marks [] h = All-nil (λ b. b == 35 ≡ false)
no_marks (c ∷ cs) h =
    let large = All-head IsDigit c cs h in
    All-cons (λ b. b == 35 ≡ false) c cs (grind (arith, large)) (no_marks cs (All-tail IsDigit c cs h))

abbrev is_some_word : List ℕ → Bool
is_some_word word = nat_lt 0 (length word)

module _ (number : List ℕ) (d : ℕ) (ds : List ℕ) (has : 0 < length number)
    (numbers : All IsDigit number) (hexes : All IsDigit (d ∷ ds)) where
  abbrev line : List ℕ
  line = number ++ 32 ∷ d ∷ ds

  endless : without_end line ≡ line
  endless =
      let long : length line ≡ length number + suc (suc (length ds)) = length-append number (32 ∷ d ∷ ds) in
      let there : length line - 1 ≡ length number + suc (length ds) = omega (arith, long) in
      let last : slice_index line (length line - 1) ≡ slice_index (d ∷ ds) (length ds) =
      ap (λ k. slice_index line k) there ∙ get_or-append-add number (32 ∷ d ∷ ds) (suc (length ds)) 0 in
      let large = All-get_or IsDigit (d ∷ ds) (length ds) 0 (omega arith) hexes in
      let not_end : slice_index line (length line - 1) == 10 ≡ false =
      ne_eqb _ 10 (λ e. omega (arith, large, last, e)) in
      rw not_end refl

  bare : without_comment line ≡ line
  bare =
      let marks : All (λ b. b == 35 ≡ false) line =
      All-append (λ b. b == 35 ≡ false) number (32 ∷ d ∷ ds) (no_marks number numbers)
      (All-cons (λ b. b == 35 ≡ false) 32 (d ∷ ds) refl (no_marks (d ∷ ds) hexes)) in
      let whole : position_or_len (λ b. b == 35) line ≡ length line =
      position_or_len_is (λ b. b == 35) line (length line) 0 (omega arith)
      (λ k l. All-get_or (λ b. b == 35 ≡ false) line k 0 l marks) (λ l. absurd (omega (arith, l))) in
      ap (λ n. take n line) whole ∙ take_all (length line) line (omega arith)

  two : parted_words line ≡ number ∷ (d ∷ ds) ∷ []
  two =
      ap (filter is_some_word)
      (slice_split_at is_blank number 32 (d ∷ ds) (no_blanks number numbers) refl
      ∙ ap (λ (ws : List (List ℕ)). number ∷ ws)
      (slice_split_none is_blank (d ∷ ds) (no_blanks (d ∷ ds) hexes)))
      ∙ rw (lt-ltb 0 (length number) has, lt-ltb 0 (length (d ∷ ds)) (omega arith)) refl

  written_words : words_of line ≡ number ∷ (d ∷ ds) ∷ []
  written_words = ap parted_words (ap without_comment endless ∙ bare) ∙ two

-- the frame of a line in the form in which frames are written
pub written_frame : (line number digits : List ℕ) (place to : ℕ) (bytes : List ℕ) → place < length line
    → slice_index line place ≡ 32 → number ≡ take place line → digits ≡ drop (place + 1) line
    → 0 < length digits → SpellsFrame (number ∷ digits ∷ []) to bytes → SpellsFrame (words_of line) to bytes
written_frame line number [] place to bytes inside space first second some spelled = absurd (omega (arith, some))
written_frame line number (d ∷ ds) place to bytes inside space first second some spelled =
    let cut : line ≡ number ++ 32 ∷ d ∷ ds =
    sym (take-append-drop place line)
    ∙ ap (λ (r : List ℕ). take place line ++ r)
    (drop_more line place 0 inside ∙ ap (λ b. b ∷ drop (place + 1) line) space ∙ ap (λ (r : List ℕ). 32 ∷ r) (sym second))
    ∙ ap (λ (r : List ℕ). r ++ 32 ∷ d ∷ ds) (sym first) in
    let words : words_of line ≡ number ∷ (d ∷ ds) ∷ [] =
    ap words_of cut
    ∙ written_words number d ds spelled.0.0.digits.0 (number_large number spelled.0.0.digits.1)
    (digits_large (d ∷ ds) (decode_of-ok (d ∷ ds) bytes spelled.1).1) in
    rw words spelled

-- what follows of each frame follows of the one that was found
pub found : {F E : Type 0} (r : Result (Option F) E) (P Q : F → Type 0) → ((f : F) → P f → Q f)
    → IfOk r (λ o. IfSome o P) → IfOk r (λ o. IfSome o Q)
found (Ok (Some f)) P Q h is = h f is
found (Ok None) P Q h is = tt
found (Err e) P Q h is = tt
