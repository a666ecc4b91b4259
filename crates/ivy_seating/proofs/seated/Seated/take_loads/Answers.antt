use Rattle.ivy_seating.proofs.Seats.{replies_seated}
use Rattle.ivy_seating.proofs.seated.Seated.take_loads.Goals as goal

pub invariant_of-self : goal.invariant_of-self
invariant_of-self g c =
    replies_seated g.S.Setup.config g.S.Setup.opened g.S.Setup.programs _ _ c.self.inside.site
    c.take_loads.new.self
    c.self.inside.pass c.take_loads.ensures.taken c.self.invariant
