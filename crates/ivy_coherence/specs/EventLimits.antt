-- How much one event does at most.
use Rattle.std.specs.Prelude.{ℕ}
use Rattle.ivy_model.specs.stated.Limits.{most_nodes}

-- the messages that a node posts in one event: one for each that is served, or one to each other
-- node
abbrev pub most_posted : ℕ
most_posted = most_nodes
