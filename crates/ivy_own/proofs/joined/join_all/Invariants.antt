use Rattle.std.proofs.Common.{◌≡◌, ◌+◌, ◌≤◌, ℕ, Some, slice_get, vec_len, vec_capacity}
use Rattle.std.specs.Prelude.{MatchResult}
use Rattle.std.specs.Vec.Iter.{into_iter_items, into_iter_len}
use Rattle.ivy_own.specs.Ended.{HasEnded}
use Rattle.ivy_own.specs.Faults.{StopsFor}
use Rattle.ivy_own.proofs.joined.join_all.Given as goal

abbrev pub invariant-loop-handle : goal.invariant-loop-handle
invariant-loop-handle g l =
    (vec_len l.all + into_iter_len l.handle-iterator ≡ vec_len l.fn.handles)
    × (vec_len l.fn.handles ≤ vec_capacity l.all)
    × ((k : ℕ) (h : _) → slice_get (into_iter_items l.handle-iterator) k ≡ Some h
    → (h.promise.work.now ≡ l.fn.work) × (h.promise.me ≡ vec_len l.all + k))
    × ((i : ℕ) (r : _) → slice_get l.all.items i ≡ Some r
    → MatchResult r (λ ended. HasEnded (g.W.Work.done l.fn.work) i ended.mine ended.out)
    (StopsFor (g.W.Work.gives_up l.fn.work) i))
