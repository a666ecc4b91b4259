use Rattle.proof_lent.proofs.Seen.{mapped_accesses_are_flat}
use Rattle.proof_lent.proofs.law.mapped_accesses_are_flat.Goals as goal

pub returns : goal.returns
returns c = mapped_accesses_are_flat
