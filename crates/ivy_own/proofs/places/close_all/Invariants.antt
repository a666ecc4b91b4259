use Rattle.std.proofs.Common.{◌≡◌, ◌+◌, ◌≤◌, ℕ, Some, map, slice_get, vec_len, vec_capacity}
use Rattle.std.specs.Vec.Iter.{into_iter_items, into_iter_len}
use Rattle.ivy_seating.specs.Reports.{report_of, AllKeep}
use Rattle.ivy_seating.specs.Collected.{AreTold}
use Rattle.ivy_own.specs.Ended.{HasEnded, AreClosed}
use Rattle.ivy_own.proofs.places.close_all.Given as goal

-- the starter was told of the sites so far, and their works have done what they had to
abbrev pub invariant-loop-ended : goal.invariant-loop-ended
invariant-loop-ended g l = record {
  count : vec_len l.sites + into_iter_len l.ended-iterator ≡ vec_len l.fn.worked.all;
  outs : vec_len l.outs ≡ vec_len l.sites;
  node : l.node ≡ vec_len l.sites;
  room : (vec_len l.fn.worked.all ≤ vec_capacity l.sites) × (vec_len l.fn.worked.all ≤ vec_capacity l.outs);
  ether : l.starter.ether ≡ l.fn.ether;
  left : (k : ℕ) (e : _) → slice_get (into_iter_items l.ended-iterator) k ≡ Some e
      → HasEnded (g.W.Work.done l.fn.work) (vec_len l.sites + k) e.mine e.out;
  told : AreTold g.S.Setup.config g.S.Setup.opened g.S.Setup.programs l.starter.known
      (map report_of l.sites.items);
  kept : AllKeep l.fn.plan.keep (map report_of l.sites.items);
  done : AreClosed (g.W.Work.done l.fn.work) (map report_of l.sites.items) l.outs.items;
}
