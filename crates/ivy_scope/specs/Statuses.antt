-- With which exit status a command ends.
use Rattle.std.specs.Prelude.{◌≡◌, ◌≤◌, ◌⊎◌, ℕ}

-- with 3 at most, with 5, that of a standstill, or with 6, that of a search that was not whole
abbrev pub IsStatus : ℕ → Type 0
IsStatus status = (status ≤ 3) ⊎ (status ≡ 5) ⊎ (status ≡ 6)
