use Rattle.std.proofs.Common.{fold, get_or, sym, ap, ◌∙◌}
use Rattle.std.proofs.lemmas.List.{take_all}
use Rattle.std.proofs.lemmas.List.Sums.{fold_more}
use Rattle.ivy_logs.specs.Sums.{sum_with}
use Rattle.ivy_logs.proofs.sum.add.Goals as goal

pub loop-number-preserved : goal.loop-number-preserved
unfolding sum_with
loop-number-preserved c =
    ap (λ h. sum_with h (get_or c.args.numbers.now c.loop-number.number-index 0)) c.loop-number.invariant
    ∙ sym (fold_more sum_with c.args.sum c.args.numbers.now c.loop-number.number-index 0 c.loop-number-test.true)

pub returns : goal.returns
returns c =
    c.loop-number.invariant
    ∙ ap (fold sum_with c.args.sum) (take_all c.loop-number.number-index c.args.numbers.now c.loop-number-test.false)
