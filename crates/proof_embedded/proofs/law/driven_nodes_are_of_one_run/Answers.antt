use Rattle.proof_embedded.proofs.Driving.{driven_nodes_are_of_one_run}
use Rattle.proof_embedded.proofs.law.driven_nodes_are_of_one_run.Goals as goal

pub returns : goal.returns
returns c = driven_nodes_are_of_one_run
