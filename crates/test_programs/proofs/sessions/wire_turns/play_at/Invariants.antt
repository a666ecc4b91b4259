use Rattle.ivy_host.specs.declared.opening.Opening.TheVariants.{Configured}
use Rattle.test_programs.proofs.sessions.wire_turns.play_at.Given as goal

abbrev pub ghosts-play : goal.ghosts-play
ghosts-play g a = record { config = a.config.now; opened = Configured; programs = a.programs.items }
