use Rattle.proof_answers.proofs.answers.Pulsed.{nothing_is_dropped}
use Rattle.proof_answers.proofs.law.nothing_is_dropped.Goals as goal

pub returns : goal.returns
returns c = nothing_is_dropped
