use Rattle.std.proofs.Common.{arith}
use Rattle.std.proofs.lemmas.List.{take_more_same}
use Rattle.ivy_replay.proofs.ReplayedParts.{record_same}
use Rattle.ivy_replay.proofs.explanation.begins_with.Goals as goal

pub loop-place-preserved : goal.loop-place-preserved
loop-place-preserved c =
    let a = c.loop-place-test.true in
    let b = c.requires in
    take_more_same c.args.mine.now c.args.history.now c.loop-place.place _ (omega (arith, a, b))
    (omega (arith, a, b)) c.loop-place.invariant (record_same _ _
    (c.is_same.ensures.node c.if-not-is_same.false) (c.is_same.ensures.call c.if-not-is_same.false)
    (c.is_same.ensures.reply c.if-not-is_same.false))
