use Rattle.proof_answers.proofs.fairness.Calls.{calls_answered, calls_answered_unfetched}
use Rattle.proof_answers.proofs.law.calls_are_answered.Goals as goal

pub returns-clause-fetching : goal.returns-clause-fetching
returns-clause-fetching c = calls_answered

pub returns-clause-unfetched : goal.returns-clause-unfetched
returns-clause-unfetched c = calls_answered_unfetched
