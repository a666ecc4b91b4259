use Rattle.proof_answers.proofs.answers.Pulsed.{pulses_deliver}
use Rattle.proof_answers.proofs.law.pulses_deliver.Goals as goal

pub returns : goal.returns
returns c = pulses_deliver
