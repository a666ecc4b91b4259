use Rattle.std.proofs.Common.{rules, arith, ◌≡◌, ◌<◌, ◌+◌, length, vec_len, [], ◌∷◌, ◌++◌, sym, ap, subst, ◌∙◌}
use Rattle.std.specs.Vec.Iter.{into_iter_len}
use Rattle.ivy_calls.specs.declared.answer.Answer.{Answer}
use Rattle.ivy_own.specs.Known.{Listed, listed}
use Rattle.ivy_own.proofs.Each.{none_got, got_more, left_all, left_first, left_more}
use Rattle.ivy_own.proofs.workers.fn.run_crew.scope.Goals as goal

pub loop-mine-init : goal.loop-mine-init
loop-mine-init g c =
    let gives = c.into_iter-mine-iterator.ensures.into_iter_gives in
    let many = gives.1 in
    let empty : vec_len c.in_ok-handles.handles ≡ 0 = search rules in (
      omega (arith, empty),
      sym empty,
      left_all (λ i (m : Listed Answer). m ≡ listed i []) (vec_len c.in_ok-handles.handles) _
          c.captures.mines.items empty gives.0 c.requires.fresh,
      none_got (λ i h. (h.promise.work.now ≡ c.captures.work.now) × (h.promise.me ≡ i))
          c.in_ok-handles.handles.items c.in_ok-handles.ensures.items,
      search rules,
    )

pub spawn_with-requires-clause-runs : goal.spawn_with-requires-clause-runs
spawn_with-requires-clause-runs g c κs within =
    let was = c.loop-mine.invariant in
    let mine : c.in-Some.mine ≡ listed c.loop-mine.me [] =
    left_first (λ i (m : Listed Answer). m ≡ listed i []) (vec_len c.loop-mine.handles)
    c.in-Some.mine _ _ c.in-Some.ensures.steps.0 was.2
    ∙ ap (λ i. listed i []) (sym was.1) in
    let cross = c.requires-raw.1.1.1.1.1.1.1 in
    let t = cross.0 in
    let j = cross.1.0 in
    let a = cross.1.1.0 in
    let out = cross.1.1.1.0 in
    let jj = cross.1.1.1.1.0 in
    let aa = cross.1.1.1.1.1.0 in
    let r = cross.1.1.1.1.1.1.0 in
    let gate = cross.1.1.1.1.1.1.1.0 in
    let w = cross.1.1.1.1.1.1.1.1.0 in (
      mine,
      (
        search (rules, t),
        search (rules, j),
        search (rules, a),
        search (rules, out),
        search (rules, jj),
        search (rules, aa),
        search (rules, r),
        search (rules, gate),
        search (rules, w),
        cross.1.1.1.1.1.1.1.1.1.0,
      ),
    )

pub loop-mine-preserved-after-is_err : goal.loop-mine-preserved-after-is_err
loop-mine-preserved-after-is_err g c =
    let was = c.loop-mine.invariant in
    let handles = c.loop-mine.handles in
    let handle = c.in-Ok.handle in
    let steps = c.in-Some.ensures.steps.0 in
    let count = was.0 in
    let number = was.1 in
    let room = was.4 in
    let longer : vec_len c.push_reserved.new.self ≡ vec_len handles + 1 = search rules in
    let left : into_iter_len c.loop-mine.mine-iterator ≡ into_iter_len c.next.new.self + 1 =
    search rules in
    let gives = c.into_iter-mine-iterator.ensures.into_iter_gives in
    let few : into_iter_len c.into_iter-mine-iterator.result < 256 =
    subst (λ n. n < 256) (sym gives.1) c.requires.few in
    let promised : handle.promise.me ≡ c.loop-mine.me = search rules in
    let work : handle.promise.work.now ≡ c.captures.work.now = search rules in
    let pushed : c.push_reserved.new.self.items ≡ handles.items ++ handle ∷ [] = search rules in
    let here : vec_len handles ≡ length handles.items = omega (arith, handles.ok.0) in (
      omega (arith, count, longer, left),
      omega (arith, count, number, longer, left, few),
      left_more (λ i (m : Listed Answer). m ≡ listed i []) (vec_len handles)
          (vec_len c.push_reserved.new.self) _ _ _ steps longer was.2,
      got_more (λ i h. (h.promise.work.now ≡ c.captures.work.now) × (h.promise.me ≡ i))
          (vec_len handles) handles.items c.push_reserved.new.self.items handle here pushed was.3
          (work, promised ∙ number),
      search rules,
    )

pub loop-mine-preserved : goal.loop-mine-preserved
loop-mine-preserved g c =
    let was = c.loop-mine.invariant in
    let handles = c.loop-mine.handles in
    let handle = c.in-Ok.handle in
    let steps = c.in-Some.ensures.steps.0 in
    let count = was.0 in
    let number = was.1 in
    let room = was.4 in
    let longer : vec_len c.push_reserved.new.self ≡ vec_len handles + 1 = search rules in
    let left : into_iter_len c.loop-mine.mine-iterator ≡ into_iter_len c.next.new.self + 1 =
    search rules in
    let gives = c.into_iter-mine-iterator.ensures.into_iter_gives in
    let few : into_iter_len c.into_iter-mine-iterator.result < 256 =
    subst (λ n. n < 256) (sym gives.1) c.requires.few in
    let promised : handle.promise.me ≡ c.loop-mine.me = search rules in
    let work : handle.promise.work.now ≡ c.captures.work.now = search rules in
    let pushed : c.push_reserved.new.self.items ≡ handles.items ++ handle ∷ [] = search rules in
    let here : vec_len handles ≡ length handles.items = omega (arith, handles.ok.0) in (
      omega (arith, count, longer, left),
      omega (arith, count, number, longer, left, few),
      left_more (λ i (m : Listed Answer). m ≡ listed i []) (vec_len handles)
          (vec_len c.push_reserved.new.self) _ _ _ steps longer was.2,
      got_more (λ i h. (h.promise.work.now ≡ c.captures.work.now) × (h.promise.me ≡ i))
          (vec_len handles) handles.items c.push_reserved.new.self.items handle here pushed was.3
          (work, promised ∙ number),
      search rules,
    )
