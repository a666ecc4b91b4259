use Rattle.std.proofs.Common.{◌∷◌, []}
use Rattle.ivy_site.proofs.Handed.{after_hand}
use Rattle.ivy_site.proofs.site.Site.hand.Goals as goal

pub invariant_of-self : goal.invariant_of-self
invariant_of-self g c = (
  after_hand ((c.args.call ∷ []) ∷ []) _ c.args.self.now c.self.view_is c.hand.new.self c.hand.ensures
      c.self.invariant.0 c.requires.free,
  c.self.invariant.1,
)
