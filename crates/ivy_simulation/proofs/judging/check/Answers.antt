-- The verdict is that of the order that the text says, under the configuration of its sizes.
use Rattle.std.proofs.Common.{◌↔◌, IfOk, IsTrue, subst}
use Rattle.ivy_model.specs.stated.Legal.{Legal}
use Rattle.ivy_simulation.proofs.Verdicts.{verdict-printed}
use Rattle.ivy_simulation.proofs.judging.check.Goals as goal

pub returns : goal.returns
returns g c =
    let legal =
    subst (λ rs. IfOk c.judge.result (λ yes. IsTrue yes ↔ Legal c.in_ok-config.config rs))
    c.deref.ensures.value c.judge.ensures.legal in
    verdict-printed c.args.text.now c.in_ok-order.order.sizes c.in_ok-config.config
    c.in_ok-order.order.records.items _ _ c.judge.result c.in_ok-order.ensures.spelled
    c.in_ok-config.ensures.shown legal c.judge.ensures.printed
