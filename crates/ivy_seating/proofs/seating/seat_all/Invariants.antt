use Rattle.std.proofs.Common.{◌≡◌, ◌+◌, ◌≤◌, ℕ, true, length, vec_len, All, slice_get, Some}
use Rattle.std.specs.Vec.Iter.{into_iter_items, into_iter_len}
use Rattle.ivy_program.specs.stated.Programs.{Program}
use Rattle.ivy_ether.specs.Rule.{times}
use Rattle.ivy_ether.specs.EtherViews.{IsNewcomer}
use Rattle.ivy_seating.proofs.seating.seat_all.Given as goal

-- the programs left are those from this node on, for which no seat was issued yet
abbrev pub invariant-loop-program : goal.invariant-loop-program
invariant-loop-program g l = record {
  can : (goal.iterator-loop-program g).can_next l.program-iterator;
  finite : (goal.iterator-loop-program g).is_finite l.program-iterator;
  left : into_iter_len l.program-iterator ≡ length (into_iter_items l.program-iterator);
  count : l.node + length (into_iter_items l.program-iterator) ≡ length g.S.Setup.programs;
  there : (k : ℕ) (p : Program) → slice_get (into_iter_items l.program-iterator) k ≡ Some p
      → slice_get g.S.Setup.programs (l.node + k) ≡ Some p;
  ether : l.starter.ether ≡ l.ether;
  starts : l.starter.known.starts ≡ true;
  issued : (j : ℕ) → l.node ≤ j → times j l.starter.known.issued ≡ 0;
  passes : All (IsNewcomer l.ether) l.passes.items;
  seated : vec_len l.seats ≡ l.node;
  enough : vec_len l.passes ≡ length (into_iter_items l.program-iterator);
}
