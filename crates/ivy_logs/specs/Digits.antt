-- What a digit stands for.
use Rattle.std.specs.Prelude.{◌≡◌, ◌≤◌, ℕ, MatchOption}
use Rattle.hex.specs.Hex.{hex_digit_value}

-- the half of a byte that the digit c stands for, or more than any half where c is no digit
abbrev pub IsHalf : ℕ → ℕ → Type 0
IsHalf c half = MatchOption (hex_digit_value c) (16 ≤ half) (λ value. half ≡ value)
