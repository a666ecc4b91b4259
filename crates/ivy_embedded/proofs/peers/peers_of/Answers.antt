use Rattle.std.proofs.Common.{◌+◌, sym, subst, ◌∙◌, true≢false}
use Rattle.ivy_embedded.specs.Peers.{AreThose}
use Rattle.ivy_embedded.proofs.Gathered.{none_yet, one_in, one_out}
use Rattle.ivy_embedded.proofs.peers.peers_of.Goals as goal
use Rattle.ivy_embedded.proofs.peers.peers_of.Goals.{then-is, else-is}

pub loop-to-init : goal.loop-to-init
loop-to-init g c =
    subst (AreThose (g.T.Relation.holds c.args.site.now) 0) (sym c.new-those.ensures)
    (none_yet (g.T.Relation.holds c.args.site.now))

pub loop-to-preserved : goal.loop-to-preserved
loop-to-preserved g c = elim c.if-is.branch [
  | then-is w ↦
      subst (AreThose (g.T.Relation.holds c.args.site.now) (c.loop-to.to + 1)) (sym (w.those-is ∙ w.insert.ensures))
      (one_in (g.T.Relation.holds c.args.site.now) c.loop-to.to c.loop-to.those c.loop-to.invariant
      (c.is.ensures.0 w.if-is.true))
  | else-is w ↦
      subst (AreThose (g.T.Relation.holds c.args.site.now) (c.loop-to.to + 1)) (sym w.those-is)
      (one_out (g.T.Relation.holds c.args.site.now) c.loop-to.to c.loop-to.those c.loop-to.invariant
      (λ keeps. true≢false (sym (c.is.ensures.1 keeps) ∙ w.if-is.false)))
]
