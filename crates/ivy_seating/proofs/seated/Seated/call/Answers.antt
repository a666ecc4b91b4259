use Rattle.std.proofs.Common.{◌∷◌, [], refl, sym, subst}
use Rattle.std.specs.Prelude.{IsSome, Ok}
use Rattle.ivy_site.specs.Handed.{site_handed}
use Rattle.ivy_site.specs.declared.turn.Turn.TheVariants.{Moved}
use Rattle.ivy_seating.proofs.Seats.{hand_seated, turned}
use Rattle.ivy_seating.proofs.seated.Seated.call.Goals as goal

pub hand-requires-clause-seated : goal.hand-requires-clause-seated
hand-requires-clause-seated g c = subst IsSome (sym c.self.invariant.node) refl

pub invariant_of-self-2 : goal.invariant_of-self-2
invariant_of-self-2 g c =
    turned g.S.Setup.config g.S.Setup.opened g.S.Setup.programs _ (Ok Moved)
    (site_handed ((c.args.call ∷ []) ∷ []) c.self.inside.site) c.call_in_place.new.self c.hand.new.pass
    c.in_ok-reply.ensures.done.turns
    (hand_seated g.S.Setup.config g.S.Setup.opened g.S.Setup.programs _ c.self.inside.site
    (site_handed ((c.args.call ∷ []) ∷ []) c.self.inside.site) c.self.inside.pass c.hand.new.pass c.args.call
    refl c.hand.ensures.pass c.hand.ensures.known c.self.invariant)
