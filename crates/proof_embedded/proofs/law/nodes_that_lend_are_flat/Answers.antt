use Rattle.proof_embedded.proofs.Flat.{nodes_that_lend_are_flat}
use Rattle.proof_embedded.proofs.law.nodes_that_lend_are_flat.Goals as goal

pub returns : goal.returns
returns c = nodes_that_lend_are_flat
