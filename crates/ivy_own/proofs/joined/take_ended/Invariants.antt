use Rattle.std.proofs.Common.{◌≡◌, ◌+◌, ℕ, Some, slice_get, vec_len}
use Rattle.std.specs.Prelude.{MatchResult}
use Rattle.std.specs.Vec.Iter.{into_iter_items, into_iter_len}
use Rattle.ivy_own.specs.Ended.{HasEnded}
use Rattle.ivy_own.specs.Faults.{StopsFor}
use Rattle.ivy_own.proofs.joined.take_ended.Given as goal

abbrev pub invariant-loop-given : goal.invariant-loop-given
invariant-loop-given g l =
    (vec_len l.taken + into_iter_len l.given-iterator ≡ vec_len l.fn.all)
    × ((k : ℕ) (r : _) → slice_get (into_iter_items l.given-iterator) k ≡ Some r
    → MatchResult r
    (λ ended. HasEnded (g.W.Work.done l.fn.work) (vec_len l.taken + k) ended.mine ended.out)
    (StopsFor (g.W.Work.gives_up l.fn.work) (vec_len l.taken + k)))
    × ((i : ℕ) (e : _) → slice_get l.taken.items i ≡ Some e
    → HasEnded (g.W.Work.done l.fn.work) i e.mine e.out)
