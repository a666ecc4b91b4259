use Rattle.std.proofs.Common.{sym}
use Rattle.ivy_coherence.proofs.batches.Takes.{all_given}
use Rattle.ivy_coherence.proofs.rest.Rest.given.Goals as goal

pub returns-then-is_same : goal.returns-then-is_same
returns-then-is_same g c =
    sym (all_given c.args.kind c.self.inside.kind c.self.inside.offset c.self.inside.waiting
    c.self.inside.left c.self.inside.bytes.items c.args.self.now c.self.view_is
    (c.is_same.ensures.same c.if-is_same.true))
