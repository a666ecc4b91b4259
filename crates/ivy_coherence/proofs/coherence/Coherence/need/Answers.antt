use Rattle.std.proofs.Common.{refl}
use Rattle.ivy_coherence.proofs.keeping.Opened.{hit_sound}
use Rattle.ivy_coherence.proofs.coherence.Coherence.need.Goals as goal

pub invariant_of-self : goal.invariant_of-self
invariant_of-self g c = (
  hit_sound g.met.M.Manager.laws _ _ c.self.view_is c.self.invariant.0 c.args.page c.args.word _
      c.requires.page c.requires.word (c.in-Some.ensures.bytes refl),
  c.self.invariant.1,
  c.self.invariant.2,
)
