use Rattle.std.proofs.Common.{rules, arith, ◌≡◌, ◌≤◌, All, length, map, slice_get, Some, refl, sym, ap, subst, ◌∙◌}
use Rattle.std.proofs.lemmas.List.{length-map, take_all}
use Rattle.ivy_join.specs.Joined.{NamesSum}
use Rattle.ivy_join.proofs.Named.{head-there, names-more, names-none, other-sum}
use Rattle.ivy_join.proofs.join_logs.check_sums.Goals as goal

pub loop-log-preserved : goal.loop-log-preserved
loop-log-preserved g c =
    let at = c.loop-log.invariant.node in record {
      node = omega (arith, at);
      names = names-more (λ x. x.sum) c.args.sum c.args.logs.now c.loop-log.log-index c.log-item.result
          (search rules) c.log-item.is c.loop-log.invariant.names (search rules);
    }

pub loop-log-init : goal.loop-log-init
loop-log-init g c = record { node = refl; names = names-none (λ x. x.sum) c.args.sum c.args.logs.now }

pub returns-clause-all : goal.returns-clause-all
returns-clause-all g c =
    let long : length (map (λ x. x.sum) c.args.logs.now) ≤ c.loop-log.log-index =
    omega (arith, c.loop-log-test.false, length-map c.args.logs.now (λ x. x.sum)) in
    subst (λ ss. All (NamesSum c.args.sum) ss)
    (take_all c.loop-log.log-index (map (λ x. x.sum) c.args.logs.now) long) c.loop-log.invariant.names

pub returns-then-not-names_sum-clause-why : goal.returns-then-not-names_sum-clause-why
returns-then-not-names_sum-clause-why g c =
    let other = other-sum c.args.sum c.log-item.result.sum (search rules) in (
      other.0,
      subst (λ i. slice_get (map (λ x. x.sum) c.args.logs.now) i ≡ Some (Some other.0))
          (sym c.loop-log.invariant.node)
          (head-there (λ x. x.sum) c.args.logs.now c.loop-log.log-index c.log-item.result (search rules)
          c.log-item.is ∙ ap Some other.1),
      other.2,
    )
