use Rattle.std.proofs.Common.{ap}
use Rattle.ivy_link.specs.Holding.{link_of}
use Rattle.ivy_link.proofs.Boxes.{accepted-box}
use Rattle.ivy_link.proofs.outbox.Outbox.accept.Goals as goal

pub invariant_of-self : goal.invariant_of-self
invariant_of-self g c =
    accepted-box _ _ c.self.view_is c.self.invariant c.args.frame.now (link_of c.accept.new.self)
    c.accept.new.self.held
    c.requires.number (ap link_of c.accept.ensures.after)
