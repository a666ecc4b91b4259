use Rattle.std.proofs.Common.{refl, sym, subst}
use Rattle.std.specs.Prelude.{IsSome}
use Rattle.ivy_seating.proofs.Seats.{hand_seated}
use Rattle.ivy_seating.proofs.seated.Seated.hand.Goals as goal

pub hand-requires-2-clause-seated : goal.hand-requires-2-clause-seated
hand-requires-2-clause-seated g c = subst IsSome (sym c.self.invariant.node) refl

pub invariant_of-self-2 : goal.invariant_of-self-2
invariant_of-self-2 g c =
    hand_seated g.S.Setup.config g.S.Setup.opened g.S.Setup.programs _ c.self.inside.site
    c.hand.new.self
    c.self.inside.pass c.hand-2.new.pass c.args.call c.in_ok-hand.ensures.ok c.hand-2.ensures.pass
    c.hand-2.ensures.known c.self.invariant
