use Rattle.proof_table.proofs.waiting.ReadersKept.{readers_come_first}
use Rattle.proof_table.proofs.law.readers_come_first.Goals as goal

pub returns : goal.returns
returns c = readers_come_first
