use Rattle.ivy_memory.proofs.serving.CallsServed.{words_are_flat, refusals_are_flat}
use Rattle.ivy_memory.proofs.law.words_are_flat.Goals as goal

pub returns-clause-words : goal.returns-clause-words
returns-clause-words c = words_are_flat

pub returns-clause-refusals : goal.returns-clause-refusals
returns-clause-refusals c = refusals_are_flat
