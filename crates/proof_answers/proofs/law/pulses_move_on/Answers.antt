use Rattle.proof_answers.proofs.answers.Pulsed.{pulses_move_on}
use Rattle.proof_answers.proofs.law.pulses_move_on.Goals as goal

pub returns : goal.returns
returns c = pulses_move_on
