use Rattle.ivy_replay.proofs.ReplayedParts.{explained}
use Rattle.ivy_replay.proofs.explanation.explains.Goals as goal

pub returns : goal.returns
returns c = λ h.
    explained c.args.config.now c.args.world.now.world c.args.order.now
    c.args.world.now.config.nodes c.keeps.ensures.nodes
    (c.in_ok-check_order.ensures.legal.0 c.if-not-branch.false) (c.in_ok-has_parts.ensures h)
