-- The programs so far went in.
use Rattle.std.proofs.Common.{◌≡◌, fold, take}
use Rattle.ivy_logs.specs.Sums.{config_numbers, sum_on, with_program}
use Rattle.ivy_logs.proofs.sum.sum_opened.Given as goal

abbrev pub invariant-loop-program : goal.invariant-loop-program
invariant-loop-program g l =
    l.total
    ≡ fold with_program (sum_on 0xcbf2_9ce4_8422_2325 (config_numbers l.fn.steady l.fn.config))
    (take l.program-index l.programs)
