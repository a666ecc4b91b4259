use Rattle.ivy_watching.proofs.session.play.Given as goal

abbrev pub ghosts-play_at : goal.ghosts-play_at
ghosts-play_at g a = record { ether = a.ether.now }
