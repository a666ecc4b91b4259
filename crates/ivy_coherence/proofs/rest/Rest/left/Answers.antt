use Rattle.ivy_coherence.proofs.batches.Takes.{many_left}
use Rattle.ivy_coherence.proofs.rest.Rest.left.Goals as goal

pub returns : goal.returns
returns g c =
    many_left c.self.inside.kind c.self.inside.kind c.self.inside.offset c.self.inside.waiting
    c.self.inside.left c.self.inside.bytes.items c.args.self.now c.self.view_is
