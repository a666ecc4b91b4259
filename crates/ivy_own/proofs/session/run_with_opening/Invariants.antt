use Rattle.ivy_own.specs.Reports.{all_open}
use Rattle.ivy_own.proofs.session.run_with_opening.Given as goal

abbrev pub ghosts-play : goal.ghosts-play
ghosts-play g a = record {
  config = a.plan.now.config;
  opened = a.plan.now.opening;
  programs = all_open a.plan.now.config;
}
