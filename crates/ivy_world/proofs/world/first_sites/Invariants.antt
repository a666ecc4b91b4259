use Rattle.std.proofs.Common.{◌≡◌, ◌+◌, ◌++◌, length}
use Rattle.std.specs.Vec.Iter.{into_iter_items, into_iter_len}
use Rattle.ivy_world.specs.WorldSites.{first_sites_from}
use Rattle.ivy_world.proofs.world.first_sites.Given as goal

-- the sites so far, and those of the programs left, are all
abbrev pub invariant-loop-program : goal.invariant-loop-program
invariant-loop-program g l = record {
  can : (goal.iterator-loop-program g).can_next l.program-iterator;
  finite : (goal.iterator-loop-program g).is_finite l.program-iterator;
  left : into_iter_len l.program-iterator ≡ length (into_iter_items l.program-iterator);
  count : l.me + length (into_iter_items l.program-iterator) ≡ l.config.nodes;
  all : l.sites.items ++ first_sites_from l.opening l.config l.me
      (into_iter_items l.program-iterator)
      ≡ first_sites_from l.opening l.config 0 l.fn.programs.items;
}
