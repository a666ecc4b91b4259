use Rattle.std.proofs.Common.{rules, arith, ◌≡◌, ◌+◌, Some, length, slice_get, sym, subst, vec_len, [], ◌∷◌, ◌++◌, ◌∙◌}
use Rattle.std.specs.Prelude.{IfOk, MatchResult}
use Rattle.std.specs.Vec.Iter.{into_iter_len}
use Rattle.std.proofs.lemmas.Option.{same_Some}
use Rattle.ivy_play.specs.Ends.{HasEnded, HasGivenUp}
use Rattle.ivy_play.specs.Reports.{HasGiven}
use Rattle.ivy_play.proofs.Each.{got_more, left_all, left_first, left_more, none_got}
use Rattle.ivy_play.proofs.close.outcomes_of.Goals as goal

pub loop-given-init : goal.loop-given-init
loop-given-init g c =
    let gives = c.into_iter-given-iterator.ensures.into_iter_gives in
    let none : vec_len c.new-outcomes.result ≡ 0 = search rules in
    let empty : c.new-outcomes.result.items ≡ [] = c.new-outcomes.ensures.items in (
      search rules,
      left_all (λ i r. slice_get c.args.all.items i ≡ Some r) (vec_len c.new-outcomes.result) _
          c.args.all.items none gives.0 (λ k r at. at),
      none_got (λ i o. HasGiven (g.W.Work.done c.args.work.now) c.args.world.now.world i o)
          c.new-outcomes.result.items empty,
      none_got
          (λ i outcome. (r : _) → slice_get c.args.all.items i ≡ Some r
          → MatchResult r
          (λ ended. HasEnded c.args.world.now.world i ended.answers.items ended.is_cut ended.out
          outcome)
          (λ up. HasGivenUp c.args.world.now.world i up outcome))
          c.new-outcomes.result.items empty,
    )

pub outcome_of-requires-clause-done : goal.outcome_of-requires-clause-done
outcome_of-requires-clause-done g c κs within =
    let was = c.loop-given.invariant in
    let steps = c.in-Some.ensures.steps.0 in
    let node : vec_len c.loop-given.outcomes ≡ c.len-node.result = search rules in
    subst
    (λ n. IfOk c.in-Some.given (λ e. g.W.Work.done c.args.work.now n e.answers.items e.out)) node
    (c.requires.done (vec_len c.loop-given.outcomes) c.in-Some.given
    (left_first (λ i r. slice_get c.args.all.items i ≡ Some r) (vec_len c.loop-given.outcomes)
    c.in-Some.given _ _ steps was.1))

pub loop-given-preserved : goal.loop-given-preserved
loop-given-preserved g c =
    let was = c.loop-given.invariant in
    let outcomes = c.loop-given.outcomes in
    let outcome = c.in_ok-outcome.outcome in
    let given = c.in-Some.given in
    let steps = c.in-Some.ensures.steps.0 in
    let longer : vec_len c.push_reserved.new.self ≡ vec_len outcomes + 1 = search rules in
    let left : into_iter_len c.loop-given.given-iterator ≡ into_iter_len c.next.new.self + 1 =
    search rules in
    let pushed : c.push_reserved.new.self.items ≡ outcomes.items ++ outcome ∷ [] = search rules in
    let count : vec_len outcomes ≡ length outcomes.items = omega (arith, outcomes.ok.0) in
    let node : c.len-node.result ≡ vec_len outcomes = search rules in
    let here : HasGiven (g.W.Work.done c.args.work.now) c.args.world.now.world (vec_len outcomes)
    outcome = subst
    (λ n. HasGiven (g.W.Work.done c.args.work.now) c.args.world.now.world n outcome) node
    c.in_ok-outcome.ensures.given in
    let first : slice_get c.args.all.items (vec_len outcomes) ≡ Some given =
    left_first (λ i r. slice_get c.args.all.items i ≡ Some r) (vec_len outcomes) given _ _ steps
    was.1 in
    let stands : MatchResult given
    (λ ended. HasEnded c.args.world.now.world (vec_len outcomes) ended.answers.items ended.is_cut
    ended.out outcome)
    (λ up. HasGivenUp c.args.world.now.world (vec_len outcomes) up outcome) = subst
    (λ n. MatchResult given
    (λ ended. HasEnded c.args.world.now.world n ended.answers.items ended.is_cut ended.out outcome)
    (λ up. HasGivenUp c.args.world.now.world n up outcome))
    node c.in_ok-outcome.ensures.stands in (
      omega (arith, was.0, longer, left),
      left_more (λ i r. slice_get c.args.all.items i ≡ Some r) (vec_len outcomes)
          (vec_len c.push_reserved.new.self) _ _ _ steps longer was.1,
      got_more (λ i o. HasGiven (g.W.Work.done c.args.work.now) c.args.world.now.world i o)
          (vec_len outcomes) outcomes.items c.push_reserved.new.self.items outcome count pushed
          was.2 here,
      got_more
          (λ i o. (r : _) → slice_get c.args.all.items i ≡ Some r
          → MatchResult r
          (λ ended. HasEnded c.args.world.now.world i ended.answers.items ended.is_cut ended.out o)
          (λ up. HasGivenUp c.args.world.now.world i up o))
          (vec_len outcomes) outcomes.items c.push_reserved.new.self.items outcome count pushed
          was.3
          (λ r at. subst
          (λ x. MatchResult x
          (λ ended. HasEnded c.args.world.now.world (vec_len outcomes) ended.answers.items
          ended.is_cut ended.out outcome)
          (λ up. HasGivenUp c.args.world.now.world (vec_len outcomes) up outcome))
          (same_Some given r (sym first ∙ at)) stands),
    )
