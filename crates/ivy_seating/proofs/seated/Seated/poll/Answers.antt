use Rattle.ivy_seating.proofs.Seats.{polled}
use Rattle.ivy_seating.proofs.seated.Seated.poll.Goals as goal

pub invariant_of-self : goal.invariant_of-self
invariant_of-self g c =
    polled g.S.Setup.config g.S.Setup.opened g.S.Setup.programs _ c.poll.result _ _ _
    c.poll.ensures.done c.self.invariant
