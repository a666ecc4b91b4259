use Rattle.ivy_session.proofs.session.Session.run_opening.Given as goal

abbrev pub ghosts-play : goal.ghosts-play
ghosts-play g a = record {
  config = a.plan.now.config;
  opened = a.plan.now.opening;
  programs = a.programs.items;
}
