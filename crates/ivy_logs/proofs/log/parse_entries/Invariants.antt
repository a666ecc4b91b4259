-- The lines so far say the entries so far.
use Rattle.std.specs.List.{AllZip}
use Rattle.ivy_program.proofs.reading.Reading.{texts_of}
use Rattle.ivy_texts.specs.Spelled.{worded}
use Rattle.ivy_logs.specs.Entries.{SpellsIn}
use Rattle.ivy_logs.proofs.log.parse_entries.Given as goal

abbrev pub invariant-loop-before : goal.invariant-loop-before
invariant-loop-before g l = AllZip (SpellsIn l.kind) (worded (texts_of l.yielded)) l.entries.items
