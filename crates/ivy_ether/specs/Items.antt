-- Items of the ether.
use Rattle.std.specs.Prelude.{ℕ, List, [], ◌∷◌}
use Rattle.ivy_moves.specs.Marks.{Mark}
use Rattle.ivy_ether.specs.Data.{Item}
use Rattle.ivy_ether.specs.declared.item.Item.TheVariants.{Seat, Frame, Report}

-- what an item is
abbrev pub strings_in : Item → List (List ℕ)
strings_in (Seat i) = []
strings_in (Frame b) = b ∷ []
strings_in (Report i es) = []

-- whose seat it is; 0 where it is no seat
abbrev pub seat_of : Item → ℕ
seat_of (Seat i) = i
seat_of (Frame b) = 0
seat_of (Report i es) = 0

-- the event list that it reports; none where it is no report
abbrev pub events_in : Item → List Mark
events_in (Seat i) = []
events_in (Frame b) = []
events_in (Report i es) = es.marks
