use Rattle.ivy_coherence.proofs.keeping.Opened.{told_few, told_fit}
use Rattle.ivy_coherence.proofs.coherence.Coherence.fault.Goals as goal

pub invalidate-requires-clause-few : goal.invalidate-requires-clause-few
invalidate-requires-clause-few g c =
    rw (c.copies.ensures)
    (told_few _ _ c.self.view_is c.self.invariant.0 c.args.page c.args.idle.now c.requires.idle)

pub invalidate-requires-clause-fits : goal.invalidate-requires-clause-fits
invalidate-requires-clause-fits g c =
    rw (c.copies.ensures)
    (told_fit _ _ c.self.view_is c.self.invariant.0 c.args.page c.args.call c.args.idle.now _ _
    c.requires.idle c.requires.page c.requires.call c.ranges.call.fits c.requires.post.config
    c.requires.post.node)
