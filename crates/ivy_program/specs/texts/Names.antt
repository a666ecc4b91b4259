-- The names of labels.
use Rattle.std.specs.Prelude.{ℕ, nat_eq, Bool, List}
use lib.Pointwise.{pointwise}

-- place by place
abbrev pub same_name : List ℕ → List ℕ → Bool
same_name a b = pointwise nat_eq a b

-- the name of a label, and the place that it names
abbrev pub Label : Type 0
Label = List ℕ × ℕ
