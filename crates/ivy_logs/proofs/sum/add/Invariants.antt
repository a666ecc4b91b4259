-- The numbers so far went in.
use Rattle.std.proofs.Common.{◌≡◌, fold, take}
use Rattle.ivy_logs.specs.Sums.{sum_with}
use Rattle.ivy_logs.proofs.sum.add.Given as goal

abbrev pub invariant-loop-number : goal.invariant-loop-number
invariant-loop-number l = l.total ≡ fold sum_with l.fn.sum (take l.number-index l.numbers)
