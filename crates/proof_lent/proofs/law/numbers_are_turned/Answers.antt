use Rattle.proof_lent.proofs.Numbers.{numbers_are_turned}
use Rattle.proof_lent.proofs.law.numbers_are_turned.Goals as goal

pub returns : goal.returns
returns c = numbers_are_turned
