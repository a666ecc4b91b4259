-- Nodes in a ring.
use Rattle.std.specs.Prelude.{ℕ, ◌+◌, nat_lt, if◌then◌else◌}

-- the number of the node after this one, of so many
abbrev pub next : ℕ → ℕ → ℕ
next nodes me = if nat_lt (me + 1) nodes then me + 1 else 0
