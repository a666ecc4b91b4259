use Rattle.std.proofs.Common.{[], ◌∷◌}
use Rattle.ivy_own.proofs.tie.Tie.push.Given as goal

abbrev pub ghosts-grow : goal.ghosts-grow
ghosts-grow g a = record { more = a.value.now ∷ [] }
