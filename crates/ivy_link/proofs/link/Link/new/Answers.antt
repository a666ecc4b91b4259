use Rattle.std.proofs.Common.{arith}
use Rattle.ivy_link.proofs.Peers.{new-all}
use Rattle.ivy_link.proofs.link.Link.new.Goals as goal

pub returns-clause-ok : goal.returns-clause-ok
returns-clause-ok g c =
    new-all c.args.me c.loop.sides.items c.loop.counter c.args.nodes c.loop.invariant.peers
    c.loop.invariant.held (omega (arith, c.loop-test.false, c.loop.auto.counter-end))
