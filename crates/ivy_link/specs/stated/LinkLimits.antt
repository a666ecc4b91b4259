-- The limits of a link.
use Rattle.std.specs.Prelude.{ℕ, ◌-◌, ◌^◌}

-- the greatest number of a message
abbrev pub greatest_number : ℕ
greatest_number = 2 ^ 64 - 1

-- how many kept messages are sent again at once
abbrev pub most_again : ℕ
most_again = 32

-- how far above the number delivered a string is held
abbrev pub most_ahead : ℕ
most_ahead = 32
