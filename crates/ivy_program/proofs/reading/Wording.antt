-- The words of a text, found one after another.
use Rattle.std.proofs.Common.{◌≡◌, ◌∙◌, ℕ, ◌+◌, ◌-◌, ◌<◌, ◌≤◌, nat_lt, Bool, true, false, Bor, List, [], ◌∷◌, ◌++◌, All, length, map, take, drop, get_or, refl, sym, ap, subst, append_assoc, take-append-drop, length-drop, length-take, arith}
use Rattle.std.specs.List.{filter, slice_split}
use Rattle.std.proofs.lemmas.Bool.{lt-ltb}
use Rattle.std.proofs.lemmas.List.{drop-drop, drop_more, drop_all, get_or-take, get_or-drop, length-append, length-map, length-take-le}
use Rattle.std.proofs.lemmas.List.Elements.{All-from_get_or}
use Rattle.std.proofs.lemmas.List.Splits.{slice_split-cons_yes, slice_split_none, slice_split_at}
use Rattle.ivy_program.specs.texts.TextWords.{is_blank, parted_words}

abbrev is_some_word : List ℕ → Bool
is_some_word word = nat_lt 0 (length word)

-- no byte from here up to there is a blank
abbrev pub IsBare : List ℕ → ℕ → ℕ → Type 0
IsBare bs start at = (k : ℕ) → start ≤ k → k < at → is_blank (get_or bs k 0) ≡ false

kept : (w : List ℕ) (ws : List (List ℕ)) → 0 < length w
    → filter is_some_word (w ∷ ws) ≡ w ∷ filter is_some_word ws
kept w ws some = rw (lt-ltb 0 (length w) some) refl

-- a blank that follows another, or begins the text
pub parted_blank : (bs : List ℕ) (at : ℕ) → at < length bs → is_blank (get_or bs at 0) ≡ true
    → parted_words (drop at bs) ≡ parted_words (drop (at + 1) bs)
parted_blank bs at inside blank =
    ap parted_words (drop_more bs at 0 inside)
    ∙ ap (filter is_some_word)
    (slice_split-cons_yes is_blank (get_or bs at 0) (drop (at + 1) bs) blank)

bare_all : (bs : List ℕ) (start n : ℕ) → IsBare bs start (start + n)
    → All (λ b. is_blank b ≡ false) (take n (drop start bs))
bare_all bs start n bare =
    All-from_get_or (λ b. is_blank b ≡ false) (take n (drop start bs)) 0
    (λ i l.
    let short : i < n = omega (arith, length-take n (drop start bs)) in
    rw (get_or-take n (drop start bs) i 0 short, get_or-drop start bs i 0)
    (bare (start + i) (omega arith) (omega arith)))

-- a word that a blank ends
pub parted_word : (bs : List ℕ) (start at : ℕ) → start < at → at < length bs → IsBare bs start at
    → is_blank (get_or bs at 0) ≡ true
    → parted_words (drop start bs)
    ≡ take (at - start) (drop start bs) ∷ parted_words (drop (at + 1) bs)
parted_word bs start at before inside bare blank =
    let n : ℕ = at - start in
    let there : start + n ≡ at = omega arith in
    let word : List ℕ = take n (drop start bs) in
    let cut : drop start bs ≡ word ++ (get_or bs at 0 ∷ drop (at + 1) bs) =
    sym (take-append-drop n (drop start bs))
    ∙ ap (λ (t : List ℕ). word ++ t)
    (drop-drop n start bs ∙ ap (λ k. drop k bs) there ∙ drop_more bs at 0 inside) in
    let some : 0 < length word =
    omega (arith, length-take n (drop start bs), length-drop start bs) in
    ap parted_words cut
    ∙ ap (filter is_some_word)
    (slice_split_at is_blank word (get_or bs at 0) (drop (at + 1) bs)
    (bare_all bs start n (subst (IsBare bs start) (sym there) bare)) blank)
    ∙ kept word (slice_split is_blank (drop (at + 1) bs)) some

-- the last word, which the text ends
pub parted_last : (bs : List ℕ) (start : ℕ) → start < length bs → IsBare bs start (length bs)
    → parted_words (drop start bs) ≡ drop start bs ∷ []
parted_last bs start inside bare =
    let some : 0 < length (drop start bs) = omega (arith, length-drop start bs) in
    let all : All (λ b. is_blank b ≡ false) (drop start bs) =
    All-from_get_or (λ b. is_blank b ≡ false) (drop start bs) 0
    (λ i l.
    rw (get_or-drop start bs i 0)
    (bare (start + i) (omega arith) (omega (arith, length-drop start bs)))) in
    ap (filter is_some_word) (slice_split_none is_blank (drop start bs) all)
    ∙ kept (drop start bs) [] some

pub parted_none : (bs : List ℕ) (start : ℕ) → length bs ≤ start → parted_words (drop start bs) ≡ []
parted_none bs start past = ap parted_words (drop_all start bs past)

-- the words so far, and those of what follows
abbrev pub texts_to : List (Bor (List ℕ)) → ℕ → List (List ℕ)
texts_to words count = map (λ w. w.now) (take count words)

-- one word more
pub one_more : (old new : List (Bor (List ℕ))) (count : ℕ) (word : List ℕ)
    (rest more whole : List (List ℕ)) → texts_to old count ++ rest ≡ whole → rest ≡ word ∷ more
    → texts_to new (count + 1) ≡ texts_to old count ++ word ∷ [] → texts_to new (count + 1) ++ more ≡ whole
one_more old new count word rest more whole so_far parts put =
    ap (λ (t : List (List ℕ)). t ++ more) put
    ∙ append_assoc (texts_to old count) (word ∷ []) more
    ∙ ap (λ (t : List (List ℕ)). texts_to old count ++ t) (sym parts) ∙ so_far

-- and no place for it
pub too_many : (words : List (Bor (List ℕ))) (count : ℕ) (word : List ℕ)
    (rest more whole : List (List ℕ)) → texts_to words count ++ rest ≡ whole → rest ≡ word ∷ more
    → count ≡ length words → length words < length whole
too_many words count word rest more whole so_far parts full =
    let long : length (texts_to words count) ≡ count =
    length-map (take count words) (λ w. w.now) ∙ length-take-le count words (omega (arith, full)) in
    omega (
      arith,
      long,
      full,
      ap length so_far,
      length-append (texts_to words count) rest,
      ap length parts,
    )
