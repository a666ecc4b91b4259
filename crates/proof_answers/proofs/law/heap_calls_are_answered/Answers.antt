use Rattle.proof_answers.proofs.fairness.Calls.{heap_calls_answered}
use Rattle.proof_answers.proofs.law.heap_calls_are_answered.Goals as goal

pub returns : goal.returns
returns c = heap_calls_answered
