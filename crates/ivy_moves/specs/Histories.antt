-- What contracts see of a history: its records, whether they are kept, and whether one more has a
-- place.
use Rattle.std.specs.Prelude.{Bool, List}
use Rattle.ivy_model.specs.declared.Record.{Record}

pub record HistoryState : Type 0 where
  pub records : List Record
  pub kept : Bool
  pub has_room : Bool
