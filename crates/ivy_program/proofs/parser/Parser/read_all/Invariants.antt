-- The lines so far are read.
use Rattle.ivy_program.proofs.reading.Reading.{IsReadSoFar, texts_of}
use Rattle.ivy_program.proofs.parser.Parser.read_all.Given as goal

abbrev pub invariant-loop-before : goal.invariant-loop-before
invariant-loop-before g l = IsReadSoFar (texts_of l.yielded) l.self l.at_fault
