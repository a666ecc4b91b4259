-- What a node is but for its link, as rules: the program, the memory and the history of the node
-- lie in it.
-- Everything that is said of strings, links and worlds is said over any core, so it knows nothing
-- of pages.
use Rattle.std.specs.Prelude.{ℕ, List, Option}
use Rattle.ivy_wire.specs.stated.Data.{Message, Parcel}

-- the core after an event, and what it posts, in order
pub record Outcome (C : Type 0) : Type 0 where
  pub after : C
  pub posted : List Parcel

-- the rules of a core: what a turn and a message do to it
pub record Core (C : Type 0) : Type 0 where
  -- one turn of the program; none where no instruction is carried out, no call begins and no reply
  -- is recorded
  pub turn : C → Option (Outcome C)
  -- a message that comes from a node
  pub serve : C → ℕ → Message → Outcome C
