use Rattle.std.proofs.Common.{arith}
use Rattle.ivy_logs.proofs.Pairs.{read_more, read_all}
use Rattle.ivy_logs.proofs.log.put_bytes.Goals as goal

pub loop-at-preserved : goal.loop-at-preserved
loop-at-preserved c =
    read_more c.args.digits.now c.loop-at.places c.loop-at.at c.loop-at.all c.half_of-high.result
    c.half_of-low.result (omega arith) (omega arith) c.half_of-high.ensures c.half_of-low.ensures
    c.loop-at.invariant

pub returns : goal.returns
returns c =
    read_all c.args.digits.now c.loop-at.places c.loop-at.at c.loop-at.all (omega arith) (omega arith)
    c.loop-at.invariant
