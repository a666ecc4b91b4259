-- What contracts see of a pass: the ether that it is of, and what it knows.
use Rattle.atomic_table.specs.Seated.{TableId}
use Rattle.ivy_ether.specs.Views.{View}

pub record Held : Type 0 where
  pub ether : TableId
  pub known : View

-- a pass of this ether that knows this
abbrev pub held : TableId → View → Held
held t v = record { ether = t; known = v }
