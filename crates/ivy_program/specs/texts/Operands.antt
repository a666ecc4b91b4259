-- The words of the operands of an instruction.
use Rattle.std.specs.Prelude.{◌≡◌, ℕ, ◌+◌, ◌-◌, ◌≤◌, ◌||◌, nat_lt, Bool, IsTrue, List, [], ◌∷◌, length, ◌++◌, drop, replicate, filter, slice_index, codes, if◌then◌else◌}
use Rattle.std.specs.List.{list_all}
use Rattle.std.specs.Char.{is_ascii_lowercase, is_ascii_digit}
use Rattle.std.specs.Str.Parse.{digits_value}
use Rattle.ivy_program.specs.declared.instruction.Width.{Width}
use Rattle.ivy_program.specs.declared.instruction.Operation.{Operation}
use Rattle.ivy_program.specs.declared.instruction.Operation.TheVariants.{Add, Sub, Mul}
use Rattle.ivy_program.specs.stated.Instructions.{bytes_in}
use Rattle.ivy_program.specs.texts.Numbers.{IsNumber}
use Rattle.ivy_program.specs.stated.ProgramLimits.{most_letters}

-- an `r` and the number in decimal digits, of which it has one or two: 48 is `0`, 49 is `1`
abbrev pub register_word : ℕ → List ℕ
register_word r =
    if nat_lt r 10 then 114 ∷ (48 + r) ∷ [] else 114 ∷ 49 ∷ (48 + (r - 10)) ∷ []

abbrev pub operation_word : Operation → List ℕ
operation_word Add = codes "add"
operation_word Sub = codes "sub"
operation_word Mul = codes "mul"

-- a number, which is the width in bytes
abbrev pub IsWidthWord : List ℕ → Width → Type 0
IsWidthWord word width = IsNumber word × (digits_value 10 word ≡ bytes_in width)

-- whether the byte is a small letter or a digit
abbrev pub is_name_byte : ℕ → Bool
is_name_byte b = is_ascii_lowercase b || is_ascii_digit b

-- the name of a label: 1 to 16 small letters and digits, the first a letter
pub record IsName (word : List ℕ) : Type 0 where
  pub first : IsTrue (is_ascii_lowercase (slice_index word 0))
  pub all : IsTrue (list_all is_name_byte word)
  pub short : length word ≤ most_letters

-- the bytes in front of the zeros that fill them up
abbrev pub letters_of : List ℕ → List ℕ
letters_of bytes = filter (λ b. nat_lt 0 b) bytes

-- 16 bytes: those of the word in place of the first zeros
abbrev pub padded : List ℕ → List ℕ
padded word = word ++ drop (length word) (replicate most_letters 0)
