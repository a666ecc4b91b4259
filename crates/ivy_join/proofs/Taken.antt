-- What an event of a log delivers is among the strings that the log delivers.
use Rattle.std.proofs.Common.{ℕ, List, Contains, refl, arith}
use Rattle.ivy_moves.specs.Events.{Event}
use Rattle.ivy_moves.specs.declared.Event.TheVariants.{Turns, Delivered, Pulsed}
use Rattle.ivy_join.specs.ReplaySites.{CanBeTaken, taken_in}

pub can-more-strings : (strings others : List (List ℕ)) (e : Event)
    → ((s : List ℕ) → Contains strings s → Contains others s) → CanBeTaken strings e
    → CanBeTaken others e
can-more-strings strings others (Turns count) all can = tt
can-more-strings strings others (Delivered bytes) all can = all bytes can
can-more-strings strings others (Pulsed to) all can = tt

pub taken-own : (e : Event) → CanBeTaken (taken_in e) e
taken-own (Turns count) = tt
taken-own (Delivered bytes) = (0, omega arith, refl)
taken-own (Pulsed to) = tt
