use Rattle.std.proofs.Common.{rules, arith, ◌≡◌, Some, length, slice_get, ◌+◌, [], ◌∷◌, ◌++◌, subst}
use Rattle.std.specs.Prelude.{IfOk}
use Rattle.std.specs.Vec.Iter.{into_iter_items}
use Rattle.std.proofs.lemmas.List.{nil_from_length}
use Rattle.ivy_play.proofs.Each.{push_each, none_got}
use Rattle.ivy_play.proofs.joined.join_all.Goals as goal

pub loop-handle-init : goal.loop-handle-init
loop-handle-init g c =
    let gives = c.into_iter-handle-iterator.ensures.into_iter_gives in
    let none = c.requires.none in
    let empty : c.args.all.items ≡ [] =
    nil_from_length c.args.all.items (omega (arith, none, c.args.all.ok.0)) in (
      search rules,
      search rules,
      (λ k h at.
          let e = c.requires.each k h (subst (λ l. slice_get l k ≡ Some h) gives.0 at) in
          (e.0, omega (arith, none, e.1))),
      none_got (λ i r. IfOk r (λ e. g.W.Work.done c.args.work.now i e.answers.items e.out))
          c.args.all.items empty,
    )

pub loop-handle-preserved : goal.loop-handle-preserved
loop-handle-preserved g c =
    let was = c.loop-handle.invariant in
    let all = c.loop-handle.all in
    let given = c.join-given.result in
    let first : slice_get (into_iter_items c.loop-handle.handle-iterator) 0 ≡ Some c.in-Some.handle =
    search rules in
    let mine = was.2 0 c.in-Some.handle first in
    let here : c.in-Some.handle.promise.me ≡ length all.items = omega (arith, mine.1, all.ok.0) in
    let last : IfOk given
    (λ ended. g.W.Work.done c.args.work.now (length all.items) ended.answers.items ended.out) =
    subst
    (λ w. IfOk given (λ ended. g.W.Work.done w (length all.items) ended.answers.items ended.out))
    mine.0
    (subst
    (λ m. IfOk given
    (λ ended. g.W.Work.done c.in-Some.handle.promise.work.now m ended.answers.items ended.out))
    here c.join-given.ensures) in
    let pushed : c.push_reserved.new.self.items ≡ all.items ++ given ∷ [] = search rules in (
      search rules,
      search rules,
      (λ k h at. let h = was.2 (k + 1) h in grind rules),
      λ i r at. push_each
          (λ j r. IfOk r
          (λ ended. g.W.Work.done c.args.work.now j ended.answers.items ended.out))
          all.items given was.3 last i r (subst (λ l. slice_get l i ≡ Some r) pushed at),
    )
