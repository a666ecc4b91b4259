use Rattle.ivy_own.proofs.tie.Tie.push_told.Given as goal

abbrev pub ghosts-grow : goal.ghosts-grow
ghosts-grow g a = record { more = g.M.Tells.items a.value.now }
