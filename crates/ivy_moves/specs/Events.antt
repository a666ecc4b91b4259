-- A recorded event, with the string that it delivered as the list of its bytes.
use Rattle.std.specs.Prelude.{ℕ, List}
use Rattle.ivy_moves.specs.declared.event.Event as event

abbrev pub Event : Type 0
Event = event.Event (List ℕ)
