use Rattle.proof_worlds.proofs.headline.Headline.{explained-on}
use Rattle.ivy_world.proofs.world.World.run.Goals as goal

pub returns-clause-explained : goal.returns-clause-explained
returns-clause-explained g c =
    explained-on c.args.self.now c.reached.ensures.limits c.reached.ensures.each _ _
    c.make_each-result.ensures.made
