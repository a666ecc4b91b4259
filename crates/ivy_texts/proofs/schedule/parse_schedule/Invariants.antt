-- The lines so far say the moves so far.
use Rattle.std.specs.List.{AllZip}
use Rattle.ivy_program.proofs.reading.Reading.{texts_of}
use Rattle.ivy_texts.specs.Spelled.{SpellsMove, worded}
use Rattle.ivy_texts.proofs.schedule.parse_schedule.Given as goal

abbrev pub invariant-loop-before : goal.invariant-loop-before
invariant-loop-before g l = AllZip SpellsMove (worded (texts_of l.yielded)) l.moves.items
