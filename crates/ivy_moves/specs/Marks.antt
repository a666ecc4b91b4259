-- One event of a node as definitions read it, and how a recorded list of events is read.
use Rattle.std.specs.Prelude.{ℕ, zero, suc, List, [], ◌∷◌, ◌++◌}
use Rattle.ivy_moves.specs.Events.{Event}
use Rattle.ivy_moves.specs.declared.event.Event.TheVariants.{Turns, Delivered, Pulsed}

-- a turn, a string delivered, a pulse to a node
pub data Mark : Type 0 where
  Turn : Mark
  Delivery : List ℕ → Mark
  Pulse : ℕ → Mark

-- so many turns in a row are that many turns
abbrev pub turns : ℕ → List Mark
turns zero = []
turns (suc n) = Turn ∷ turns n

-- the events that one recorded event stands for
abbrev pub marks_of : Event → List Mark
marks_of (Turns n) = turns n
marks_of (Delivered bytes) = Delivery bytes ∷ []
marks_of (Pulsed to) = Pulse to ∷ []

-- the events of a whole recorded list, in order
abbrev pub marks : List Event → List Mark
marks [] = []
marks (e ∷ es) = marks_of e ++ marks es
