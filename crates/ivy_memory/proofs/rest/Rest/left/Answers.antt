use Rattle.ivy_memory.proofs.batches.CallsLeft.{many_left}
use Rattle.ivy_memory.proofs.rest.Rest.left.Goals as goal

pub returns : goal.returns
returns g c =
    many_left c.self.inside.kind c.self.inside.addr c.self.inside.left c.self.inside.at
    c.self.inside.bytes.items c.args.self.now c.self.view_is
