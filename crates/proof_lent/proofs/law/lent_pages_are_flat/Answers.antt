use Rattle.proof_lent.proofs.LentWorlds.{lent_pages_are_flat}
use Rattle.proof_lent.proofs.law.lent_pages_are_flat.Goals as goal

pub returns : goal.returns
returns c = lent_pages_are_flat
