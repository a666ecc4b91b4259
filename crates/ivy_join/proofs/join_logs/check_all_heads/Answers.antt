use Rattle.std.proofs.Common.{rules, arith, ◌≡◌, length, map, slice_get, Some, refl, sym, ap, subst, inl, inr, ◌∙◌}
use Rattle.std.proofs.lemmas.List.{length-map, take_all}
use Rattle.std.proofs.lemmas.Result.{err_from_is_err_and, IfErr-weaker, IfOk-from_err, on_ok_weaker}
use Rattle.ivy_join.specs.Joined.{AreHeads, SaysOfCount, SaysOfHead, SaysOfHeads}
use Rattle.ivy_join.proofs.Ended.{heads-more}
use Rattle.ivy_join.proofs.Named.{head-there}
use Rattle.ivy_join.proofs.join_logs.check_all_heads.Goals as goal

pub loop-log-preserved : goal.loop-log-preserved
loop-log-preserved g c =
    let at = c.loop-log.invariant.node in record {
      node = omega (arith, at);
      heads = heads-more _ c.args.steady c.args.config.now c.args.logs.now c.loop-log.log-index c.log-item.result
          (search rules) c.log-item.is c.loop-log.invariant.heads
          (c.in_ok-check_head.ensures.same ∙ ap (λ i. record { me = i; config = c.args.config.now; steady = c.args.steady }) at);
    }

pub loop-log-init : goal.loop-log-init
loop-log-init g c = record { node = refl; heads = tt }

pub returns-in_err-check_head-clause-each : goal.returns-in_err-check_head-clause-each
returns-in_err-check_head-clause-each g c = IfOk-from_err c.from_residual.result _ c.from_residual.ensures.0

pub returns-in_err-check_head-clause-count : goal.returns-in_err-check_head-clause-count
returns-in_err-check_head-clause-count g c = IfOk-from_err c.from_residual.result _ c.from_residual.ensures.0

pub returns-clause-each : goal.returns-clause-each
returns-clause-each g c =
    on_ok_weaker c.check_count.result
    (λ _. subst (λ l. AreHeads c.args.steady c.args.config.now 0 (map (λ x. x.head) l))
    (take_all c.loop-log.log-index c.args.logs.now c.loop-log-test.false) c.loop-log.invariant.heads) c.check_count.ensures.same

pub returns-in_err-check_head-clause-why : goal.returns-in_err-check_head-clause-why
returns-in_err-check_head-clause-why g c =
    let p = err_from_is_err_and c.from_residual.result c.from_residual.ensures.1 in
    rw p.1 (inl (
      c.loop-log.node,
      c.log-item.result.head,
      subst (λ i. slice_get (map (λ x. x.head) c.args.logs.now) i ≡ Some c.log-item.result.head)
          (sym c.loop-log.invariant.node)
          (head-there (λ x. x.head) c.args.logs.now c.loop-log.log-index c.log-item.result (search rules)
          c.log-item.is),
      subst (SaysOfHead c.args.steady c.args.config.now c.loop-log.node c.log-item.result.head) (sym p.2)
          c.in_err-check_head.ensures.why,
    ))

pub returns-clause-why : goal.returns-clause-why
returns-clause-why g c =
    let all : c.loop-log.node ≡ length (map (λ x. x.head) c.args.logs.now) =
    omega (arith, c.loop-log.invariant.node, c.loop-log-test.false, length-map c.args.logs.now (λ x. x.head)) in
    IfErr-weaker c.check_count.result (SaysOfCount c.args.config.now c.loop-log.node)
    (SaysOfHeads c.args.steady c.args.config.now (map (λ x. x.head) c.args.logs.now))
    (λ why said. inr (subst (λ n. SaysOfCount c.args.config.now n why) all said)) c.check_count.ensures.why
