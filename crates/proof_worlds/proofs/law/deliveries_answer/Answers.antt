use Rattle.proof_worlds.proofs.progress.Answering.{deliveries_answer}
use Rattle.proof_worlds.proofs.law.deliveries_answer.Goals as goal

pub returns : goal.returns
returns c = deliveries_answer
