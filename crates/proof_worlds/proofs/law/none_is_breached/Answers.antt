use Rattle.proof_worlds.proofs.headline.Headline.{no_breach-led}
use Rattle.proof_worlds.proofs.law.none_is_breached.Goals as goal

pub returns : goal.returns
returns c = λ me n r.
    no_breach-led r.run.opened r.run.config r.run.programs r.limits r.programs r.reached.0
    r.run.world r.reached.1 me n r.node
