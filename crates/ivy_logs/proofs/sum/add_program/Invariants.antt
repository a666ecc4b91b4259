-- The instructions so far went in.
use Rattle.std.proofs.Common.{◌≡◌, fold, length, take}
use Rattle.ivy_logs.specs.Sums.{sum_with, with_instruction}
use Rattle.ivy_logs.proofs.sum.add_program.Given as goal

abbrev pub invariant-loop-one : goal.invariant-loop-one
invariant-loop-one g l =
    l.total
    ≡ fold with_instruction (sum_with l.fn.sum (length l.instructions)) (take l.one-index l.instructions)
