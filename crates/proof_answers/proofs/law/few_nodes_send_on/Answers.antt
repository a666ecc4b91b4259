use Rattle.proof_answers.proofs.steady.SentSteps.{few_send_on}
use Rattle.proof_answers.proofs.law.few_nodes_send_on.Goals as goal

pub returns : goal.returns
returns c = few_send_on
