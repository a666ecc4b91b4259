use Rattle.proof_answers.proofs.late.LateProved.{late_laws}
use Rattle.proof_answers.proofs.law.late_nodes_stay_late.Goals as goal

pub returns : goal.returns
returns c = late_laws
