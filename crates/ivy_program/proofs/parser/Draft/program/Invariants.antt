-- The instructions so far are those of the lines so far, but for the lines that jump to unknown
-- names.
use Rattle.ivy_program.proofs.reading.Drawn.{IsDrawn}
use Rattle.ivy_program.proofs.parser.Draft.program.Given as goal

abbrev pub invariant-loop-line : goal.invariant-loop-line
invariant-loop-line g l =
    IsDrawn l.self.lines l.self.labels l.line-index l.instructions.items l.lost
