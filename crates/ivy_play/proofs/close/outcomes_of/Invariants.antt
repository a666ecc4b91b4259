use Rattle.std.proofs.Common.{◌≡◌, ◌+◌, ℕ, Some, slice_get, vec_len}
use Rattle.std.specs.Prelude.{MatchResult}
use Rattle.std.specs.Vec.Iter.{into_iter_items, into_iter_len}
use Rattle.ivy_play.specs.Ends.{HasEnded, HasGivenUp}
use Rattle.ivy_play.specs.Reports.{HaveGiven}
use Rattle.ivy_play.proofs.close.outcomes_of.Given as goal

abbrev pub invariant-loop-given : goal.invariant-loop-given
invariant-loop-given g l =
    (vec_len l.outcomes + into_iter_len l.given-iterator ≡ vec_len l.fn.all)
    × ((k : ℕ) (r : _) → slice_get (into_iter_items l.given-iterator) k ≡ Some r
    → slice_get l.fn.all.items (vec_len l.outcomes + k) ≡ Some r)
    × HaveGiven (g.W.Work.done l.fn.work) l.fn.world.world l.outcomes.items
    × ((i : ℕ) (outcome : _) → slice_get l.outcomes.items i ≡ Some outcome → (r : _)
    → slice_get l.fn.all.items i ≡ Some r
    → MatchResult r
    (λ ended. HasEnded l.fn.world.world i ended.answers.items ended.is_cut ended.out outcome)
    (λ up. HasGivenUp l.fn.world.world i up outcome))
