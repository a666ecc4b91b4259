use Rattle.ivy_seating.proofs.WireTurns.{keeps_seat}
use Rattle.ivy_seating.proofs.seated.Seated.keeps.Goals as goal

pub returns : goal.returns
returns g c =
    rw (← c.self.view_is)
    (keeps_seat _ g.S.Setup.config g.S.Setup.opened g.S.Setup.programs c.self.inside.site
    c.self.inside.pass
    c.self.invariant c.event_list.ensures.made)
