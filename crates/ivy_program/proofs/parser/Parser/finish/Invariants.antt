-- The programs of the parts so far, or the least line at fault.
use Rattle.ivy_program.proofs.reading.Drawn.{IsMade}
use Rattle.ivy_program.proofs.parser.Parser.finish.Given as goal

abbrev pub invariant-loop-draft : goal.invariant-loop-draft
invariant-loop-draft g l =
    IsMade l.fn.self l.fn.out_of_order l.draft-index l.programs.items l.at_fault
