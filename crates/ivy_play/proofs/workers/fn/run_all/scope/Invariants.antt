use Rattle.std.proofs.Common.{◌≡◌, ◌≤◌, ℕ, Some, slice_get, vec_len, vec_capacity}
use Rattle.ivy_play.proofs.workers.fn.run_all.scope.Given as goal

abbrev pub invariant-loop-me : goal.invariant-loop-me
invariant-loop-me g l =
    (vec_len l.handles ≡ l.me)
    × ((k : ℕ) (h : _) → slice_get l.handles.items k ≡ Some h
    → (h.promise.work.now ≡ l.work.now) × (h.promise.me ≡ k))
    × (l.nodes ≤ vec_capacity l.handles)
