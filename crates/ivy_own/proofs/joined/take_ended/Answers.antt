use Rattle.std.proofs.Common.{rules, arith, ◌≡◌, ◌+◌, length, vec_len, [], ◌∷◌, ◌++◌, subst}
use Rattle.std.specs.Prelude.{MatchResult}
use Rattle.std.specs.Vec.Iter.{into_iter_len}
use Rattle.ivy_own.specs.Ended.{HasEnded}
use Rattle.ivy_own.specs.Faults.{StopsFor}
use Rattle.ivy_own.proofs.Each.{none_got, got_more, left_all, left_first, left_more}
use Rattle.ivy_own.proofs.joined.take_ended.Goals as goal

pub loop-given-init : goal.loop-given-init
loop-given-init g c =
    let gives = c.into_iter-given-iterator.ensures.into_iter_gives in
    let none : vec_len c.new-taken.result ≡ 0 = search rules in (
      search rules,
      left_all (λ i r. MatchResult r (λ e. HasEnded (g.W.Work.done c.args.work.now) i e.mine e.out)
          (StopsFor (g.W.Work.gives_up c.args.work.now) i))
          (vec_len c.new-taken.result) _ c.args.all.items none gives.0 c.requires.given,
      none_got (λ i e. HasEnded (g.W.Work.done c.args.work.now) i e.mine e.out)
          c.new-taken.result.items (search rules),
    )

pub loop-given-preserved : goal.loop-given-preserved
loop-given-preserved g c =
    let was = c.loop-given.invariant in
    let taken = c.loop-given.taken in
    let ended = c.in-Ok.ended in
    let steps = c.in-Some.ensures.steps.0 in
    let longer : vec_len c.push_reserved.new.self ≡ vec_len taken + 1 = search rules in
    let left : into_iter_len c.loop-given.given-iterator ≡ into_iter_len c.next.new.self + 1 =
    search rules in
    let pushed : c.push_reserved.new.self.items ≡ taken.items ++ ended ∷ [] = search rules in
    let count : vec_len taken ≡ length taken.items = omega (arith, taken.ok.0) in
    let its =
    left_first (λ i r. MatchResult r (λ e. HasEnded (g.W.Work.done c.args.work.now) i e.mine e.out)
    (StopsFor (g.W.Work.gives_up c.args.work.now) i))
    (vec_len taken) c.in-Some.given _ _ steps was.1 in
    let here : HasEnded (g.W.Work.done c.args.work.now) (vec_len taken) ended.mine ended.out =
    subst
    (λ r. MatchResult r
    (λ e. HasEnded (g.W.Work.done c.args.work.now) (vec_len taken) e.mine e.out)
    (StopsFor (g.W.Work.gives_up c.args.work.now) (vec_len taken)))
    c.in-Ok.is its in (
      omega (arith, was.0, longer, left),
      left_more (λ i r. MatchResult r (λ e. HasEnded (g.W.Work.done c.args.work.now) i e.mine e.out)
          (StopsFor (g.W.Work.gives_up c.args.work.now) i))
          (vec_len taken) (vec_len c.push_reserved.new.self) _ _ _ steps longer was.1,
      got_more (λ i e. HasEnded (g.W.Work.done c.args.work.now) i e.mine e.out) (vec_len taken)
          taken.items c.push_reserved.new.self.items ended count pushed was.2 here,
    )
