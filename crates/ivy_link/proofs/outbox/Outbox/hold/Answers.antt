use Rattle.ivy_link.proofs.Boxes.{held-box}
use Rattle.ivy_link.proofs.outbox.Outbox.hold.Goals as goal

pub invariant_of-self : goal.invariant_of-self
invariant_of-self g c =
    held-box _ c.self.invariant c.args.frame.now c.args.string c.hold.new.self c.hold.ensures.after
