use Rattle.std.proofs.Common.{refl}
use Rattle.proof_worlds.proofs.law.configured_begins_as_named.Goals as goal

pub returns : goal.returns
returns c = refl
