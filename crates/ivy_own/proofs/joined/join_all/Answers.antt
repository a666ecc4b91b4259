use Rattle.std.proofs.Common.{rules, arith, ◌≡◌, Some, length, slice_get, ◌+◌, [], ◌∷◌, ◌++◌, subst, vec_len}
use Rattle.std.specs.Prelude.{MatchResult}
use Rattle.std.specs.Vec.Iter.{into_iter_items}
use Rattle.ivy_own.specs.Ended.{HasEnded}
use Rattle.ivy_own.specs.Faults.{StopsFor}
use Rattle.ivy_own.proofs.Each.{empty, left_all, none_got, push_each}
use Rattle.ivy_own.proofs.joined.join_all.Goals as goal

pub loop-handle-init : goal.loop-handle-init
loop-handle-init g c =
    let gives = c.into_iter-handle-iterator.ensures.into_iter_gives in
    let many = gives.1 in
    let none = c.requires.none in (
      omega (arith, none, many),
      c.requires.room,
      left_all (λ j h. (h.promise.work.now ≡ c.args.work.now) × (h.promise.me ≡ j))
          (vec_len c.args.all) _ c.args.handles.items none gives.0 c.requires.each,
      none_got
          (λ i r. MatchResult r (λ e. HasEnded (g.W.Work.done c.args.work.now) i e.mine e.out)
          (StopsFor (g.W.Work.gives_up c.args.work.now) i))
          c.args.all.items (empty c.args.all.items (omega (arith, none, c.args.all.ok.0))),
    )

pub loop-handle-preserved : goal.loop-handle-preserved
loop-handle-preserved g c =
    let was = c.loop-handle.invariant in
    let all = c.loop-handle.all in
    let given = c.join-given.result in
    let first : slice_get (into_iter_items c.loop-handle.handle-iterator) 0 ≡ Some c.in-Some.handle =
    search rules in
    let mine = was.2 0 c.in-Some.handle first in
    let here : c.in-Some.handle.promise.me ≡ length all.items = omega (arith, mine.1, all.ok.0) in
    let last : MatchResult given
    (λ ended. HasEnded (g.W.Work.done c.args.work.now) (length all.items) ended.mine ended.out)
    (StopsFor (g.W.Work.gives_up c.args.work.now) (length all.items)) =
    subst
    (λ w. MatchResult given
    (λ ended. HasEnded (g.W.Work.done w) (length all.items) ended.mine ended.out)
    (StopsFor (g.W.Work.gives_up w) (length all.items)))
    mine.0
    (subst
    (λ m. MatchResult given
    (λ ended. HasEnded (g.W.Work.done c.in-Some.handle.promise.work.now) m ended.mine ended.out)
    (StopsFor (g.W.Work.gives_up c.in-Some.handle.promise.work.now) m))
    here c.join-given.ensures) in
    let pushed : c.push_reserved.new.self.items ≡ all.items ++ given ∷ [] = search rules in (
      search rules,
      search rules,
      (λ k h at. let h = was.2 (k + 1) h in grind rules),
      λ i r at. push_each
          (λ j r. MatchResult r
          (λ ended. HasEnded (g.W.Work.done c.args.work.now) j ended.mine ended.out)
          (StopsFor (g.W.Work.gives_up c.args.work.now) j))
          all.items given was.3 last i r (subst (λ l. slice_get l i ≡ Some r) pushed at),
    )
