-- The limits of programs and of their texts.
use Rattle.std.specs.Prelude.{ℕ}

-- how many registers a program has, from number 0 on
abbrev pub register_count : ℕ
register_count = 16

-- how many instructions a program has at most
abbrev pub most_instructions : ℕ
most_instructions = 4096

-- how many programs a text has at most, one for each node
abbrev pub most_programs : ℕ
most_programs = 32

-- how many letters and digits the name of a label has at most
abbrev pub most_letters : ℕ
most_letters = 16
