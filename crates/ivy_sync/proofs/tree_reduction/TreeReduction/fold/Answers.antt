use Rattle.ivy_sync.proofs.tree_reduction.TreeReduction.fold.Goals as goal

pub returns-clause-folds : goal.returns-clause-folds
returns-clause-folds g c = record {
  part = c.in_ok-part.part;
  mid = g.M.SharedMemory.answers c.rise.new.memory;
  rises = c.in_ok-part.ensures.rises;
  descends = c.in_ok-all.ensures.descends;
}
