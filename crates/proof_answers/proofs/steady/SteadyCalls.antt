-- Each call that is due is answered under steady hints.
use Rattle.std.proofs.Common.{◌≡◌, ◌+◌, ◌*◌, ◌-◌, subst, arith}
use Rattle.ivy_host.specs.declared.opening.Opening.TheVariants.{Steady}
use Rattle.proof_answers.specs.answers.NodeRounds.{AreRounds}
use Rattle.proof_answers.specs.fairness.Fairness.{rounds_at}
use Rattle.proof_answers.proofs.fairness.Calls.{due_answered, unfetched_rounds}
use Rattle.proof_answers.specs.steady.Steady.{steady_rounds, SteadyCallsAnswered, SteadyCallsAnsweredUnfetched}
use Rattle.proof_answers.proofs.steady.SteadyWorlds.{steady_rank}

pub steady_answered : SteadyCallsAnswered
steady_answered c programs w of i n there due end are =
    let some = of.limits.nodes_from in
    let e : 4 * c.nodes + 1 ≡ 4 * c.nodes - 2 + 3 = omega (arith, some) in
    due_answered Steady c programs
    (steady_rank c of.limits programs of.many) w of i n there due end
    (subst (λ z. AreRounds c i (rounds_at n z) w end) e are)

pub steady_answered_unfetched : SteadyCallsAnsweredUnfetched
steady_answered_unfetched c programs w of none i n there due end are =
    steady_answered c programs w of i n there due end
    (subst (λ z. AreRounds c i z w end)
    (unfetched_rounds Steady c programs w of none i n there (steady_rounds c.nodes)) are)
