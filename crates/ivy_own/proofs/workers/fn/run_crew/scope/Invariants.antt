use Rattle.std.proofs.Common.{◌≡◌, ◌+◌, ◌≤◌, ℕ, Some, [], slice_get, vec_len, vec_capacity}
use Rattle.std.specs.Vec.Iter.{into_iter_items, into_iter_len}
use Rattle.ivy_own.specs.Known.{Listed, listed}
use Rattle.ivy_calls.specs.declared.answer.Answer.{Answer}
use Rattle.ivy_own.proofs.workers.fn.run_crew.scope.Given as goal

abbrev pub invariant-loop-mine : goal.invariant-loop-mine
invariant-loop-mine g l =
    (vec_len l.handles + into_iter_len l.mine-iterator ≡ into_iter_len l.initial.mine-iterator)
    × (l.me ≡ vec_len l.handles)
    × ((k : ℕ) (m : Listed Answer) → slice_get (into_iter_items l.mine-iterator) k ≡ Some m
    → m ≡ listed (vec_len l.handles + k) [])
    × ((k : ℕ) (h : _) → slice_get l.handles.items k ≡ Some h
    → (h.promise.work.now ≡ l.work.now) × (h.promise.me ≡ k))
    × (into_iter_len l.initial.mine-iterator ≤ vec_capacity l.handles)
