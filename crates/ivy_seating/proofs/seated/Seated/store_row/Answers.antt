use Rattle.std.proofs.Common.{refl, sym, subst}
use Rattle.std.specs.Prelude.{IsSome}
use Rattle.ivy_model.specs.declared.Row.TheVariants.{Stores}
use Rattle.ivy_seating.proofs.Seats.{row_seated}
use Rattle.ivy_seating.proofs.seated.Seated.store_row.Goals as goal

pub hand_row-requires-clause-seated : goal.hand_row-requires-clause-seated
hand_row-requires-clause-seated g c = subst IsSome (sym c.self.invariant.node) refl

pub invariant_of-self : goal.invariant_of-self
invariant_of-self g c =
    row_seated g.S.Setup.config g.S.Setup.opened g.S.Setup.programs _ Stores c.args.addr _
    c.self.inside.site
    c.store_row-words.new.self c.self.inside.pass c.hand_row.new.pass c.store_row-words.ensures.stores c.hand_row.ensures.pass
    c.hand_row.ensures.known c.self.invariant
