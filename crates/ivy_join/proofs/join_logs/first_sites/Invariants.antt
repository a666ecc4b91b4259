use Rattle.std.proofs.Common.{◌≡◌, ◌+◌, ◌++◌, All, length}
use Rattle.std.specs.Vec.Iter.{into_iter_items, into_iter_len}
use Rattle.ivy_program.specs.Programs.{IsWritten}
use Rattle.ivy_moves.specs.declared.keep.Keep.TheVariants.{Nothing}
use Rattle.ivy_join.specs.ReplaySites.{kept_from}
use Rattle.ivy_join.proofs.join_logs.first_sites.Given as goal

-- the sites so far, and those of the programs left, are all
abbrev pub invariant-loop-program : goal.invariant-loop-program
invariant-loop-program g l = record {
  can : (goal.iterator-loop-program g).can_next l.program-iterator;
  finite : (goal.iterator-loop-program g).is_finite l.program-iterator;
  left : into_iter_len l.program-iterator ≡ length (into_iter_items l.program-iterator);
  count : l.me + length (into_iter_items l.program-iterator) ≡ l.config.nodes;
  all : l.sites.items ++ kept_from l.opening Nothing l.config l.me (into_iter_items l.program-iterator)
      ≡ kept_from l.opening Nothing l.config 0 l.fn.programs.items;
  written : All IsWritten (into_iter_items l.program-iterator) → All IsWritten l.fn.programs.items;
}
