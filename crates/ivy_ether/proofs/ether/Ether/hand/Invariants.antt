use Rattle.std.proofs.Common.{[], ◌∷◌}
use Rattle.ivy_ether.specs.Handings.{Calls}
use Rattle.ivy_ether.proofs.ether.Ether.hand.Given as goal

abbrev pub ghosts-hand_given : goal.ghosts-hand_given
ghosts-hand_given g a = record { handings = Calls (a.call ∷ []) ∷ [] }
