-- How many turns a site lists.
use Rattle.std.specs.Prelude.{◌≡◌, ℕ, ◌+◌, ◌%◌, ◌^◌, List, [], ◌∷◌}
use Rattle.ivy_moves.specs.Marks.{Mark, Turn, Delivery, Pulse}
use Rattle.ivy_embedded.specs.Nodes.{Embedded}
use Rattle.ivy_embedded.specs.declared.status.TheConstants.{DONE}

-- how many of the events are turns
abbrev pub turns_in : List Mark → ℕ
turns_in [] = 0
turns_in (Turn ∷ events) = turns_in events + 1
turns_in (Delivery bytes ∷ events) = turns_in events
turns_in (Pulse to ∷ events) = turns_in events

-- the number is how many of the events are turns, in 64 bits
abbrev pub CountsTurns : ℕ → List Mark → Type 0
CountsTurns count events = count ≡ turns_in events % 2 ^ 64

-- the number of the turns that the node listed since it was opened is told, and nothing changes
pub record TellsTurns (status count : ℕ) (s t : Embedded) : Type 0 where
  pub done : status ≡ DONE
  pub counts : CountsTurns count s.site.events
  pub same : t ≡ s
