use Rattle.ivy_watching.proofs.session.play_at.Given as goal

abbrev pub ghosts-play_tied : goal.ghosts-play_tied
ghosts-play_tied g a = record { table = a.opened }
