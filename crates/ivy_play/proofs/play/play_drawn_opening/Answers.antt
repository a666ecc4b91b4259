use Rattle.std.proofs.Common.{subst}
use Rattle.std.proofs.lemmas.Result.{IfOk-weaker}
use Rattle.ivy_play.specs.Given.{AreDrawn}
use Rattle.ivy_play.proofs.Listing.{drawn_many}
use Rattle.ivy_play.proofs.play.play_drawn_opening.Goals as goal

pub returns-clause-given : goal.returns-clause-given
returns-clause-given g c =
    IfOk-weaker c.play_with_opening.result _ _
    (λ report h.
    subst (λ gives. AreDrawn c.args.config gives report.moves.items report.drawn report.world)
    c.new-source.ensures h)
    c.play_with_opening.ensures.given

pub returns-clause-many : goal.returns-clause-many
returns-clause-many g c =
    IfOk-weaker c.play_with_opening.result _ _
    (λ report h. drawn_many c.args.config c.args.seed c.args.moves report.moves.items report.drawn
    report.world
    (subst (λ gives. AreDrawn c.args.config gives report.moves.items report.drawn report.world)
    c.new-source.ensures h))
    c.play_with_opening.ensures.given
