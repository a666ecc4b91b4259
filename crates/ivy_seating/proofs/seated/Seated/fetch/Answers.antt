use Rattle.std.proofs.Common.{refl, sym, subst}
use Rattle.std.specs.Prelude.{IsSome}
use Rattle.ivy_site.specs.Calls.{AfterFetch}
use Rattle.ivy_seating.proofs.Seats.{fetched_seated}
use Rattle.ivy_seating.proofs.seated.Seated.fetch.Goals as goal

pub hand_page-requires-clause-seated : goal.hand_page-requires-clause-seated
hand_page-requires-clause-seated g c = subst IsSome (sym c.self.invariant.node) refl

pub invariant_of-self-then-begun : goal.invariant_of-self-then-begun
invariant_of-self-then-begun g c =
    fetched_seated g.S.Setup.config g.S.Setup.opened g.S.Setup.programs _ c.args.page c.args.write
    c.self.inside.site c.fetch.new.self c.self.inside.pass c.hand_page.new.pass
    (subst (λ b. AfterFetch b c.args.page c.args.write c.self.inside.site c.fetch.new.self)
    c.if-begun.true c.in_ok-begun.ensures.done)
    c.hand_page.ensures.pass c.hand_page.ensures.known c.self.invariant
