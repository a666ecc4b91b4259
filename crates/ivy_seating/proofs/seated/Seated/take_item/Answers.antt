use Rattle.ivy_seating.proofs.Seats.{may_give, take_seated}
use Rattle.ivy_seating.proofs.WireTurns.{took_item}
use Rattle.ivy_seating.proofs.seated.Seated.take_item.Goals as goal

pub take-requires-clause-events : goal.take-requires-clause-events
take-requires-clause-events g c =
    may_give g.S.Setup.config g.S.Setup.opened g.S.Setup.programs _ c.self.inside.site
    c.self.inside.pass _
    c.event_list.ensures.is c.self.invariant c.event_list.ensures.made

pub returns-clause-pass : goal.returns-clause-pass
returns-clause-pass g c =
    rw (← c.self.view_is)
    (took_item c.take.result c.self.inside.ether.now c.self.inside.site c.self.inside.pass c.take.new.pass _
    c.event_list.ensures.is c.take.ensures.pass c.take.ensures.known)

pub invariant_of-self : goal.invariant_of-self
invariant_of-self g c =
    take_seated g.S.Setup.config g.S.Setup.opened g.S.Setup.programs _ c.take.result
    c.self.inside.site
    c.self.inside.pass c.take.new.pass _
    c.event_list.ensures.is c.take.ensures.pass c.take.ensures.known c.self.invariant
