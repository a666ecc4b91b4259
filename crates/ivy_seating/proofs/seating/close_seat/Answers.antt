use Rattle.std.proofs.Common.{sym, subst, ◌∙◌}
use Rattle.atomic_table.specs.Seated.{TableId}
use Rattle.ivy_seating.specs.Places.{IsSeated}
use Rattle.ivy_seating.proofs.seating.close_seat.Goals as goal

pub take_in-requires-clause-seated : goal.take_in-requires-clause-seated
take_in-requires-clause-seated g c =
    subst (λ (wire : TableId). IsSeated wire g.S.Setup.config g.S.Setup.opened g.S.Setup.programs
    c.into_parts-site.result.1 c.into_parts-site.result.2)
    (c.into_parts-site.ensures.ether ∙ c.into_seated-seated.ensures.home ∙ sym c.requires.home)
    c.into_parts-site.ensures.seated

pub returns-in-Ok-clause-keep : goal.returns-in-Ok-clause-keep
returns-in-Ok-clause-keep g c = c.is_keeping.ensures c.if-not-is_keeping.false
