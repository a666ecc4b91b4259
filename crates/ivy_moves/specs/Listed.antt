-- What contracts see of an event list: its events, whether they are kept, and whether one more has a
-- place.
use Rattle.std.specs.Prelude.{Bool, List}
use Rattle.ivy_moves.specs.Marks.{Mark}

pub record Listed : Type 0 where
  pub marks : List Mark
  pub kept : Bool
  pub has_room : Bool
