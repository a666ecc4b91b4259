use Rattle.proof_worlds.proofs.headline.Headline.{explained-on}
use Rattle.ivy_world.proofs.world.World.settle.Goals as goal

pub returns-clause-made : goal.returns-clause-made
returns-clause-made g c = record {
  by = c.settle_on-result.ensures.made;
  explained = explained-on c.args.self.now c.reached.ensures.limits c.reached.ensures.each _ _
      c.settle_on-result.ensures.made.made;
}

pub returns-clause-still : goal.returns-clause-still
returns-clause-still g c =
    λ is. let stands = c.settle_on-result.ensures.still is in
    record { stands = stands; settled = c.keeps.ensures.still stands.still }
