use Rattle.proof_worlds.proofs.headline.Headline.{words_are_carried_alone}
use Rattle.proof_worlds.proofs.law.words_are_carried_alone.Goals as goal

pub returns : goal.returns
returns c = words_are_carried_alone
