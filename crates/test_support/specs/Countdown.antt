-- A countdown to the growth that is refused. It loses 1 at each growth that is asked for, and wraps
-- at 2^64.
use Rattle.std.specs.Prelude.{◌≡◌, ℕ, ◌+◌, ◌%◌, ◌^◌}

-- What it was set to, where it stands at `left` after `asked` growths.
abbrev pub set_to : ℕ → ℕ → ℕ
set_to left asked = (left + asked) % 2 ^ 64

-- The growth that comes after `asked` others is the one to refuse.
abbrev pub RefusesNext : ℕ → ℕ → Type 0
RefusesNext left asked = set_to left asked ≡ asked + 1
