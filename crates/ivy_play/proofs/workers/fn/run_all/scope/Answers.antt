use Rattle.std.proofs.Common.{rules, arith, ◌≡◌, ◌+◌, length, vec_len, [], ◌∷◌, ◌++◌, sym, ◌∙◌}
use denote.Param.Send.{Quiet-if}
use mir.Syntax.{of_param}
use Rattle.ivy_play.proofs.Each.{got_more}
use Rattle.ivy_play.proofs.workers.fn.run_all.scope.Goals as goal

pub spawn_with-requires-clause-runs : goal.spawn_with-requires-clause-runs
spawn_with-requires-clause-runs g c κs within =
    let cross = c.requires-raw.1.1.1.1.1.1 in
    let s = cross.0 in
    let a = cross.1.0 in
    let m = cross.1.1.0 in
    let out = cross.1.1.1.0 in
    let ss = cross.1.1.1.1.0 in
    let aa = cross.1.1.1.1.1.0 in
    let r = cross.1.1.1.1.1.1.0 in
    let w = cross.1.1.1.1.1.1.1.0 in (
      record { owned = s.owned; leaving = λ k. Quiet-if (k (of_param 0)) _ _ (λ x w. tt) (λ x w. tt) },
      search (rules, a),
      record { owned = m.owned; leaving = λ k. Quiet-if (k (of_param 2)) _ _ (λ x w. tt) (λ x w. tt) },
      record { owned = out.owned; leaving = λ k. Quiet-if (k (of_param 5)) _ _ (λ x w. tt) (λ x w. tt) },
      search (rules, ss),
      search (rules, aa),
      search (rules, r),
      search (rules, w),
      cross.1.1.1.1.1.1.1.1,
    )

pub loop-me-preserved : goal.loop-me-preserved
loop-me-preserved g c =
    let was = c.loop-me.invariant in
    let handles = c.loop-me.handles in
    let handle = c.in-Ok.handle in
    let count = was.0 in
    let longer : vec_len c.push_reserved.new.self ≡ vec_len handles + 1 = search rules in
    let promised : handle.promise.me ≡ c.loop-me.me = search rules in
    let work : handle.promise.work.now ≡ c.captures.work.now = search rules in
    let pushed : c.push_reserved.new.self.items ≡ handles.items ++ handle ∷ [] = search rules in
    let here : vec_len handles ≡ length handles.items = omega (arith, handles.ok.0) in (
      omega (arith, count, longer),
      got_more (λ i h. (h.promise.work.now ≡ c.captures.work.now) × (h.promise.me ≡ i))
          (vec_len handles) handles.items c.push_reserved.new.self.items handle here pushed was.1
          (work, promised ∙ sym count),
      search rules,
    )
