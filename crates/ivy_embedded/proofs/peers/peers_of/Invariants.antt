use Rattle.ivy_embedded.specs.Peers.{AreThose}
use Rattle.ivy_embedded.proofs.peers.peers_of.Given as goal

-- those before this node were looked at
abbrev pub invariant-loop-to : goal.invariant-loop-to
invariant-loop-to g l = AreThose (g.T.Relation.holds l.site) l.to l.those
