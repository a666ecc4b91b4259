use Rattle.ivy_play.proofs.play.play_with_opening.Given as goal

abbrev pub ghosts-play : goal.ghosts-play
ghosts-play g a = record {
  config = a.beginning.config;
  opened = a.beginning.opening;
  settle = a.settle;
  gives = g.M.MoveSource.gives a.source;
}
