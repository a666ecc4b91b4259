-- What a number is in a text.
use Rattle.std.specs.Prelude.{ℕ, ◌<◌, ◌≤◌, ◌^◌, List, length}
use Rattle.std.specs.Str.Parse.{IsNumeral, digits_value}

-- 1 to 20 decimal digits that write a number of 64 bits
pub record IsNumber (word : List ℕ) : Type 0 where
  pub digits : IsNumeral 10 word
  pub short : length word ≤ 20
  pub fits : digits_value 10 word < 2 ^ 64
