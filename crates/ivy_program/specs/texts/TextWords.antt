-- The words of a line of text.
use Rattle.std.specs.Prelude.{ℕ, ◌==◌, ◌-◌, ◌||◌, Bool, List, length, filter, nat_lt, take, slice_index, if◌then◌else◌}
use Rattle.std.specs.List.{slice_split, before_first}
use Rattle.std.specs.Str.Lines.{strip_carriage_return}

-- a space or a tab
abbrev pub is_blank : ℕ → Bool
is_blank b = b == 32 || b == 9

-- what stands before the line's end, an LF and one CR before it
abbrev pub without_end : List ℕ → List ℕ
without_end line =
    if slice_index line (length line - 1) == 10
    then strip_carriage_return (take (length line - 1) line) else line

-- what stands before the comment, which a `#` starts
abbrev pub without_comment : List ℕ → List ℕ
without_comment line = before_first (λ b. b == 35) line

-- the parts between spaces and tabs that are not empty
abbrev pub parted_words : List ℕ → List (List ℕ)
parted_words bytes = filter (λ word. nat_lt 0 (length word)) (slice_split is_blank bytes)

-- the words of a line
abbrev pub words_of : List ℕ → List (List ℕ)
words_of line = parted_words (without_comment (without_end line))
