use Rattle.ivy_link.proofs.Boxes.{first-box}
use Rattle.ivy_link.proofs.outbox.Outbox.new.Goals as goal

pub invariant_of-result : goal.invariant_of-result
invariant_of-result g c =
    rw (c.in_ok-new.ensures.ok)
    (first-box c.args.config.now c.args.me c.new-2.result.items _ c.requires.limits
    c.requires.here)
