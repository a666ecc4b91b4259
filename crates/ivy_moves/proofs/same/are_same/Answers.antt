use Rattle.std.proofs.Common.{refl, arith}
use Rattle.ivy_moves.proofs.Noted.{marks_both}
use Rattle.ivy_moves.proofs.same.are_same.Goals as goal

pub loop-i-preserved : goal.loop-i-preserved
loop-i-preserved g c = (
  marks_both c.args.a.now c.args.b.now c.loop-i.i c.index-a-i.result c.index-b-i.result
      (omega arith) (let e = c.loop-i.invariant.1 in omega arith) c.index-a-i.is c.index-b-i.is
      (c.if-not-is_same.ensures refl) c.loop-i.invariant.0,
  c.loop-i.invariant.1,
)
