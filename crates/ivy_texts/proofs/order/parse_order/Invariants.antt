-- The lines so far say the sizes, once they are known, and the records so far.
use Rattle.ivy_program.proofs.reading.Reading.{texts_of}
use Rattle.ivy_texts.specs.Spelled.{worded}
use Rattle.ivy_texts.proofs.Worded.{IsOrderSoFar}
use Rattle.ivy_texts.proofs.order.parse_order.Given as goal

abbrev pub invariant-loop-before : goal.invariant-loop-before
invariant-loop-before g l = IsOrderSoFar (worded (texts_of l.yielded)) l.sizes l.records.items
