use Rattle.proof_answers.proofs.answers.Answering.{some_answered, some_answered_or_fetched, some_answered_soon}
use Rattle.proof_answers.proofs.answers.ComingRounds.{some_answered_or_come}
use Rattle.proof_answers.proofs.law.some_call_is_answered.Goals as goal

pub returns-clause-came : goal.returns-clause-came
returns-clause-came c = some_answered_or_come

pub returns-clause-either : goal.returns-clause-either
returns-clause-either c = some_answered_or_fetched

pub returns-clause-soon : goal.returns-clause-soon
returns-clause-soon c = some_answered_soon

pub returns-clause-some : goal.returns-clause-some
returns-clause-some c = some_answered
