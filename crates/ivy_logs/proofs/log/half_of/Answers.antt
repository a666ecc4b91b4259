use Rattle.std.proofs.Common.{arith}
use Rattle.ivy_logs.proofs.Halves.{lowered-byte}
use Rattle.ivy_logs.proofs.log.half_of.Goals as goal

pub returns-else-number-lt10 : goal.returns-else-number-lt10
returns-else-number-lt10 c =
    let low = lowered-byte c.args.digit c.ranges.digit.fits in
    grind (arith, low)
