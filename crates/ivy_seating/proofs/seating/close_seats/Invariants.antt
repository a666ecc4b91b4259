use Rattle.std.proofs.Common.{◌≡◌, ◌+◌, ◌≤◌, length, map, vec_len, vec_capacity}
use Rattle.std.specs.Vec.Iter.{into_iter_items, into_iter_len}
use Rattle.ivy_seating.specs.Reports.{report_of, AllKeep}
use Rattle.ivy_seating.specs.Collected.{AreTold}
use Rattle.ivy_seating.proofs.seating.close_seats.Given as goal

-- the starter was told of the sites so far
abbrev pub invariant-loop-seat : goal.invariant-loop-seat
invariant-loop-seat g l = record {
  can : (goal.iterator-loop-seat g).can_next l.seat-iterator;
  finite : (goal.iterator-loop-seat g).is_finite l.seat-iterator;
  left : into_iter_len l.seat-iterator ≡ length (into_iter_items l.seat-iterator);
  room : vec_len l.sites + length (into_iter_items l.seat-iterator) ≤ vec_capacity l.sites;
  ether : l.starter.ether ≡ l.ether;
  count : l.node ≡ length l.sites.items;
  told : AreTold g.S.Setup.config g.S.Setup.opened g.S.Setup.programs l.starter.known
      (map report_of l.sites.items);
  kept : AllKeep l.keep (map report_of l.sites.items);
}
