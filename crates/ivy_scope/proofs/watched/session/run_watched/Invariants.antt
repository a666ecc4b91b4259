use Rattle.ivy_scope.proofs.watched.session.run_watched.Given as goal

abbrev pub ghosts-play : goal.ghosts-play
ghosts-play g a = record { config = a.config.now; opened = a.terms.now.opening; programs = a.programs.items }
