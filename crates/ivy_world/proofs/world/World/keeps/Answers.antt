use Rattle.proof_worlds.proofs.headline.Headline.{keeps-reached}
use Rattle.ivy_world.proofs.world.World.keeps.Goals as goal

pub returns : goal.returns
returns g c =
    keeps-reached c.args.self.now c.reached.ensures.limits c.reached.ensures.each
    c.reached.ensures.reached
