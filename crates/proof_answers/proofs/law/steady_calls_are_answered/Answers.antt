use Rattle.proof_answers.proofs.steady.SteadyCalls.{steady_answered, steady_answered_unfetched}
use Rattle.proof_answers.proofs.law.steady_calls_are_answered.Goals as goal

pub returns-clause-fetching : goal.returns-clause-fetching
returns-clause-fetching c = steady_answered

pub returns-clause-unfetched : goal.returns-clause-unfetched
returns-clause-unfetched c = steady_answered_unfetched
