use Rattle.std.proofs.Common.{sym, subst, Contains}
use Rattle.ivy_model.specs.stated.Config.{IsConfig}
use Rattle.ivy_seating.proofs.Seats.{delivered}
use Rattle.ivy_seating.proofs.WireTurns.{verdict_told}
use Rattle.ivy_seating.proofs.seated.Seated.deliver.Goals as goal

pub invariant_of-self : goal.invariant_of-self
invariant_of-self g c =
    delivered g.S.Setup.config g.S.Setup.opened g.S.Setup.programs _ c.deliver_shared.result
    c.args.string.now _ _ _
    c.deliver_shared.ensures.done
    (subst (λ p. Contains p.pass.known.took c.args.string.now) (sym c.self.view_is) c.requires.took)
    c.self.invariant

pub returns-clause-verdict : goal.returns-clause-verdict
returns-clause-verdict g c =
    rw (← c.self.view_is)
    (verdict_told c.deliver_shared.result c.args.string.now c.self.inside.site
    c.deliver_shared.new.self
    (subst IsConfig (sym c.self.invariant.config) c.self.invariant.limits)
    c.deliver_shared.ensures.done)
