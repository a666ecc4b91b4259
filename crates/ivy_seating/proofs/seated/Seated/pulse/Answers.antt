use Rattle.std.proofs.Common.{sym, subst, ◌<◌, ◌≢◌}
use Rattle.ivy_seating.proofs.Seats.{pulsed}
use Rattle.ivy_seating.proofs.seated.Seated.pulse.Goals as goal

pub invariant_of-self : goal.invariant_of-self
invariant_of-self g c =
    pulsed g.S.Setup.config g.S.Setup.opened g.S.Setup.programs _ c.pulse.result c.args.to _ _ _
    c.pulse.ensures.done
    (subst (λ p. c.args.to < p.site.config.nodes) (sym c.self.view_is) c.requires.to)
    (subst (λ p. c.args.to ≢ p.site.me) (sym c.self.view_is) c.requires.other) c.self.invariant
