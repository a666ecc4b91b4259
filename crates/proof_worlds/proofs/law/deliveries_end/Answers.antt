use Rattle.proof_worlds.proofs.progress.Ending.{deliveries_end}
use Rattle.proof_worlds.proofs.progress.Strings.{strings_end}
use Rattle.proof_worlds.proofs.law.deliveries_end.Goals as goal

pub returns-clause-ordered : goal.returns-clause-ordered
returns-clause-ordered c = deliveries_end

pub returns-clause-strings : goal.returns-clause-strings
returns-clause-strings c = strings_end
