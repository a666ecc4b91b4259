use Rattle.std.proofs.Common.{sym, ap, ◌∙◌}
use Rattle.ivy_pagetable.specs.Lent.{lent_entry}
use Rattle.ivy_coherence.proofs.keeping.Opened.{fewer_missing}
use Rattle.ivy_coherence.proofs.coherence.Coherence.acknowledged.Goals as goal

pub left_with-requires-clause-left : goal.left_with-requires-clause-left
left_with-requires-clause-left g c =
    rw (c.remove.ensures, c.left-in-AwaitAcks.ensures.left)
    (fewer_missing g.met.M.Manager.laws _ _ c.self.view_is c.self.invariant.0 c.args.page
    c.in-AwaitAcks.state.now c.args.from (sym c.entry.ensures ∙ ap lent_entry c.in-AwaitAcks.is))
