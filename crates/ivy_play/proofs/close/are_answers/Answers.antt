use Rattle.std.proofs.Common.{arith}
use Rattle.ivy_play.proofs.Reported.{answers_more}
use Rattle.ivy_play.proofs.close.are_answers.Goals as goal

pub loop-place-preserved : goal.loop-place-preserved
loop-place-preserved c =
    let a = c.loop-place-test.true in
    let b = c.if-given-history.false in
    answers_more c.args.given.now c.args.history.now c.loop-place.place _ _ (omega (arith, a))
    (omega (arith, a, b)) c.loop-place.invariant (c.is_same.ensures.0 c.if-not-is_same.false)
