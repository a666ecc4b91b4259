-- The words of lines that are written with one blank between each two.
use Rattle.std.proofs.Common.{◌≡◌, ◌∙◌, ℕ, ◌+◌, ◌-◌, ◌<◌, ◌==◌, nat_lt, Bool, true, false, ◌&&◌, List, [], ◌∷◌, ◌++◌, All, length, take, drop, get_or, slice_index, map, add-zero, refl, sym, ap, subst, arith, append_assoc}
use Rattle.std.specs.List.{filter, before_first, after_first, position_or_len, slice_split}
use Rattle.std.specs.Str.Lines.{lines, lines_of_parts, strip_carriage_return}
use Rattle.std.proofs.Math.Seq.{take-append_seam, drop-append-add}
use Rattle.std.proofs.lemmas.Bool.{and_parts, lt-ltb, ltb-true, ne_eqb}
use Rattle.std.proofs.Math.ListN.{get_or-append}
use Rattle.std.proofs.lemmas.List.{get_or-append-add, length-append, take_all}
use Rattle.std.proofs.lemmas.List.Elements.{All-append, All-cons, All-get_or, All-head, All-nil, All-tail}
use Rattle.std.proofs.lemmas.List.Splits.{slice_split_none, slice_split_at}
use Rattle.std.proofs.lemmas.List.Sums.{position_or_len_is}
use Rattle.ivy_program.specs.texts.TextWords.{is_blank, parted_words, words_of, without_comment, without_end}
use Rattle.ivy_texts.specs.Spelled.{has_words, worded}

-- a byte that stands in words: no blank, no end of a line and no `#`
abbrev pub IsInWord : ℕ → Type 0
IsInWord b = 35 < b

abbrev pub IsWord : List ℕ → Type 0
IsWord word = (0 < length word) × All IsInWord word

-- a word, and words after it, with a blank before each
abbrev pub spaced : List ℕ → List (List ℕ) → List ℕ
spaced word [] = word
spaced word (next ∷ more) = word ++ 32 ∷ spaced next more

-- a literal is a word
abbrev are_in_word : List ℕ → Bool
are_in_word [] = true
are_in_word (b ∷ bs) = nat_lt 35 b && are_in_word bs

in_word-all : (bs : List ℕ) → are_in_word bs ≡ true → All IsInWord bs
in_word-all [] is = All-nil IsInWord
in_word-all (b ∷ bs) is =
    let parts = and_parts (nat_lt 35 b) (are_in_word bs) is in
    All-cons IsInWord b bs (ltb-true 35 b parts.0) (in_word-all bs parts.1)

pub literal : (word : List ℕ) → are_in_word word ≡ true → 0 < length word → IsWord word
literal word is some = (some, in_word-all word is)

-- what holds of a blank and of what stands in words
module _ (P : ℕ → Type 0) (blank : P 32) (other : (b : ℕ) → IsInWord b → P b) where
  each-of : (bs : List ℕ) → All IsInWord bs → All P bs
  each-of [] all = All-nil P
  each-of (b ∷ bs) all =
      All-cons P b bs (other b (All-head IsInWord b bs all)) (each-of bs (All-tail IsInWord b bs all))

  all-spaced : (word : List ℕ) (more : List (List ℕ)) → IsWord word → All IsWord more → All P (spaced word more)
  all-spaced word [] is all = each-of word is.1
  all-spaced word (next ∷ more) is all =
      All-append P word (32 ∷ spaced next more) (each-of word is.1)
      (All-cons P 32 (spaced next more) blank
      (all-spaced next more (All-head IsWord next more all) (All-tail IsWord next more all)))

spaced-some : (word : List ℕ) (more : List (List ℕ)) → IsWord word → 0 < length (spaced word more)
spaced-some word [] is = is.0
spaced-some word (next ∷ more) is =
    let long = length-append word (32 ∷ spaced next more) in omega (arith, long)

abbrev is_some_word : List ℕ → Bool
is_some_word word = nat_lt 0 (length word)

no_blanks : (word : List ℕ) → All IsInWord word → All (λ b. is_blank b ≡ false) word
no_blanks [] all = All-nil (λ b. is_blank b ≡ false)
no_blanks (b ∷ bs) all =
    let large = All-head IsInWord b bs all in
    All-cons (λ c. is_blank c ≡ false) b bs (grind (arith, large)) (no_blanks bs (All-tail IsInWord b bs all))

parted-spaced : (word : List ℕ) (more : List (List ℕ)) → IsWord word → All IsWord more
    → parted_words (spaced word more) ≡ word ∷ more
parted-spaced word [] is all =
    ap (filter is_some_word) (slice_split_none is_blank word (no_blanks word is.1))
    ∙ rw (lt-ltb 0 (length word) is.0) refl
parted-spaced word (next ∷ more) is all =
    ap (filter is_some_word) (slice_split_at is_blank word 32 (spaced next more) (no_blanks word is.1) refl)
    ∙ rw (lt-ltb 0 (length word) is.0)
    (ap (λ ws. word ∷ ws)
    (parted-spaced next more (All-head IsWord next more all) (All-tail IsWord next more all)))

module _ (word : List ℕ) (more : List (List ℕ)) (is : IsWord word) (all : All IsWord more) where
  abbrev text : List ℕ
  text = spaced word more

  last-large : 31 < slice_index text (length text - 1)
  last-large =
      let some = spaced-some word more is in
      All-get_or (λ b. 31 < b) text (length text - 1) 0 (omega (arith, some))
      (all-spaced (λ b. 31 < b) (omega arith) (λ b large. omega (arith, large)) word more is all)

  no-mark : All (λ b. b == 35 ≡ false) text
  no-mark =
      all-spaced (λ b. b == 35 ≡ false) refl (λ b large. ne_eqb b 35 (λ e. omega (arith, large, e))) word more is all

  pub no-end : All (λ b. b == 10 ≡ false) text
  no-end =
      all-spaced (λ b. b == 10 ≡ false) refl (λ b large. ne_eqb b 10 (λ e. omega (arith, large, e))) word more is all

  endless : without_end text ≡ text
  endless =
      let not_end : slice_index text (length text - 1) == 10 ≡ false =
      ne_eqb _ 10 (λ e. omega (arith, last-large, e)) in
      rw not_end refl

  bare : without_comment text ≡ text
  bare =
      let whole : position_or_len (λ b. b == 35) text ≡ length text =
      position_or_len_is (λ b. b == 35) text (length text) 0 (omega arith)
      (λ k l. All-get_or (λ b. b == 35 ≡ false) text k 0 l no-mark) (λ l. absurd (omega (arith, l))) in
      ap (λ n. take n text) whole ∙ take_all (length text) text (omega arith)

  pub words-spaced : words_of text ≡ word ∷ more
  words-spaced =
      ap parted_words (ap without_comment endless ∙ bare) ∙ parted-spaced word more is all

  pub stripped : strip_carriage_return text ≡ text
  stripped =
      let not_return : slice_index text (length text - 1) == 13 ≡ false =
      ne_eqb _ 13 (λ e. omega (arith, last-large, e)) in
      rw not_return refl

-- what stands before the first LF, and after it
module _ (line rest : List ℕ) (none : All (λ b. b == 10 ≡ false) line) where
  at-end : position_or_len (λ b. b == 10) (line ++ 10 ∷ rest) ≡ length line
  at-end =
      let long = length-append line (10 ∷ rest) in
      position_or_len_is (λ b. b == 10) (line ++ 10 ∷ rest) (length line) 0 (omega (arith, long))
      (λ k l. subst (λ b. b == 10 ≡ false) (sym (get_or-append line (10 ∷ rest) 0 k l))
      (All-get_or (λ b. b == 10 ≡ false) line k 0 l none))
      (λ l. ap (λ b. b == 10)
      (ap (λ n. get_or (line ++ 10 ∷ rest) n 0) (sym (add-zero (length line)))
      ∙ get_or-append-add line (10 ∷ rest) 0 0))

  pub before-end : before_first (λ b. b == 10) (line ++ 10 ∷ rest) ≡ line
  before-end = ap (λ n. take n (line ++ 10 ∷ rest)) at-end ∙ take-append_seam line (10 ∷ rest)

  pub after-end : after_first (λ b. b == 10) (line ++ 10 ∷ rest) ≡ rest
  after-end =
      ap (λ n. drop (n + 1) (line ++ 10 ∷ rest)) at-end ∙ drop-append-add line (10 ∷ rest) 1

-- a line by its words
pub record Line : Type 0 where
  pub word : List ℕ
  pub more : List (List ℕ)
  pub is : IsWord word
  pub all : All IsWord more

abbrev pub line_text : Line → List ℕ
line_text l = spaced l.word l.more

abbrev pub line_words : Line → List (List ℕ)
line_words l = l.word ∷ l.more

-- lines, each with an LF; and without that of the last one
abbrev pub lines_text : List Line → List ℕ
lines_text [] = []
lines_text (l ∷ ls) = line_text l ++ 10 ∷ lines_text ls

abbrev pub joined_text : Line → List Line → List ℕ
joined_text l [] = line_text l
joined_text l (m ∷ ls) = line_text l ++ 10 ∷ joined_text m ls

pub joined-whole : (l : Line) (ls : List Line) → lines_text (l ∷ ls) ≡ joined_text l ls ++ 10 ∷ []
joined-whole l [] = refl
joined-whole l (m ∷ ls) =
    ap (λ t. line_text l ++ 10 ∷ t) (joined-whole m ls)
    ∙ sym (append_assoc (line_text l) (10 ∷ joined_text m ls) (10 ∷ []))

-- the parts between LFs
parts-joined : (l : Line) (ls : List Line)
    → slice_split (λ b. b == 10) (joined_text l ls) ≡ map line_text (l ∷ ls)
parts-joined l [] = slice_split_none (λ b. b == 10) (line_text l) (no-end l.word l.more l.is l.all)
parts-joined l (m ∷ ls) =
    slice_split_at (λ b. b == 10) (line_text l) 10 (joined_text m ls) (no-end l.word l.more l.is l.all) refl
    ∙ ap (λ ts. line_text l ∷ ts) (parts-joined m ls)

lines-of-parts : (l : Line) (ls : List Line) → lines_of_parts (map line_text (l ∷ ls)) ≡ map line_text (l ∷ ls)
lines-of-parts l [] =
    let some : length (line_text l) == 0 ≡ false =
    ne_eqb (length (line_text l)) 0 (λ e. (let long = spaced-some l.word l.more l.is in omega (arith, long, e))) in
    rw some refl
lines-of-parts l (m ∷ ls) =
    ap (λ t. t ∷ lines_of_parts (map line_text (m ∷ ls))) (stripped l.word l.more l.is l.all)
    ∙ ap (λ ts. line_text l ∷ ts) (lines-of-parts m ls)

worded-lines : (ls : List Line) → worded (map line_text ls) ≡ map line_words ls
worded-lines [] = refl
worded-lines (l ∷ ls) =
    ap (λ w. filter has_words (w ∷ map words_of (map line_text ls))) (words-spaced l.word l.more l.is l.all)
    ∙ ap (λ ws. line_words l ∷ ws) (worded-lines ls)

-- the words of the lines are those that were written
pub worded-joined : (l : Line) (ls : List Line) → worded (lines (joined_text l ls)) ≡ map line_words (l ∷ ls)
worded-joined l ls =
    ap worded (ap lines_of_parts (parts-joined l ls) ∙ lines-of-parts l ls) ∙ worded-lines (l ∷ ls)
