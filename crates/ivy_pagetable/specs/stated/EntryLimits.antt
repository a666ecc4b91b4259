-- How much an entry holds.
use Rattle.std.specs.Prelude.{ℕ}
use Rattle.ivy_model.specs.stated.Limits.{most_nodes}

-- messages put off at one entry
abbrev pub most_put_off : ℕ
most_put_off = most_nodes
