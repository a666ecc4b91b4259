use Rattle.std.proofs.Common.{◌≡◌, ◌+◌, ◌≤◌, ℕ, Some, map, slice_get, vec_len, vec_capacity}
use Rattle.std.specs.Prelude.{MatchResult}
use Rattle.std.specs.Vec.Iter.{into_iter_items, into_iter_len}
use Rattle.ivy_own.specs.Ended.{HasEnded}
use Rattle.ivy_own.specs.Faults.{StopsFor}
use Rattle.ivy_standstill.specs.CollectedSoFar.{AreToldSoFar}
use Rattle.ivy_standstill.specs.SoFar.{so_far_of, AllKeepSoFar}
use Rattle.ivy_watching.specs.Standings.{AllStand}
use Rattle.ivy_watching.proofs.close.close_all.Given as goal

-- the starter was told of the sites so far, and of each it is known how its work stands
abbrev pub invariant-loop-given : goal.invariant-loop-given
invariant-loop-given g l = record {
  count : vec_len l.sites + into_iter_len l.given-iterator ≡ vec_len l.fn.stopped.all;
  outs : vec_len l.outs ≡ vec_len l.sites;
  node : l.node ≡ vec_len l.sites;
  room : (vec_len l.fn.stopped.all ≤ vec_capacity l.sites) × (vec_len l.fn.stopped.all ≤ vec_capacity l.outs);
  ether : l.starter.ether ≡ l.fn.ether;
  left : (k : ℕ) (r : _) → slice_get (into_iter_items l.given-iterator) k ≡ Some r
      → MatchResult r
      (λ ended. HasEnded (g.W.Work.done l.fn.work) (vec_len l.sites + k) ended.mine ended.out)
      (StopsFor (g.W.Work.gives_up l.fn.work) (vec_len l.sites + k));
  told : AreToldSoFar g.S.Setup.config g.S.Setup.opened g.S.Setup.programs l.starter.known
      (map so_far_of l.sites.items);
  kept : AllKeepSoFar l.fn.plan.keep (map so_far_of l.sites.items);
  stand : AllStand (g.W.Work.done l.fn.work) (map so_far_of l.sites.items) l.outs.items;
}
