use Rattle.std.proofs.Common.{arith}
use Rattle.ivy_coherence.proofs.batches.Rests.{took}
use Rattle.ivy_coherence.proofs.rest.Rest.take.Goals as goal

pub returns-clause-rest : goal.returns-clause-rest
returns-clause-rest g c =
    took c.self.inside.kind c.self.inside.offset c.self.inside.waiting c.self.inside.left
    c.self.inside.bytes.items c.args.self.now c.self.view_is c.self.invariant.4
    (omega (arith, c.if-self-eq0.false))
