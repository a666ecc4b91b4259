use Rattle.std.proofs.Common.{arith, refl, sym, subst}
use Rattle.std.specs.Prelude.{IsSome}
use Rattle.ivy_seating.proofs.Seats.{begun_seated}
use Rattle.ivy_seating.proofs.seated.Seated.call_row.Goals as goal

pub hand_together-requires-clause-seated : goal.hand_together-requires-clause-seated
hand_together-requires-clause-seated g c = subst IsSome (sym c.self.invariant.node) refl

pub invariant_of-self-then-begun-gt0 : goal.invariant_of-self-then-begun-gt0
invariant_of-self-then-begun-gt0 g c =
    let some = c.if-begun-gt0.true in
    begun_seated g.S.Setup.config g.S.Setup.opened g.S.Setup.programs _ c.args.kind c.args.addr
    c.in_ok-begun.begun
    c.args.bytes.now c.self.inside.site c.call_row.new.self c.self.inside.pass
    c.hand_together.new.pass (λ none. omega (arith, some, none)) c.in_ok-begun.ensures.done c.hand_together.ensures.pass
    c.hand_together.ensures.known c.self.invariant
