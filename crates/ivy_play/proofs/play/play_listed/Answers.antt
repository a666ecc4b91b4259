use Rattle.std.proofs.Common.{take, subst}
use Rattle.std.proofs.lemmas.Result.{IfOk-weaker}
use Rattle.ivy_play.specs.Given.{AreDrawn}
use Rattle.ivy_play.proofs.Listing.{listed_among}
use Rattle.ivy_play.proofs.play.play_listed.Goals as goal

pub returns-clause-given : goal.returns-clause-given
returns-clause-given g c =
    IfOk-weaker c.play_with.result _ _
    (λ report h. listed_among c.args.config report.moves.items report.world
    (take report.drawn report.moves.items) c.args.moves.now 0 0
    (subst (λ gives. AreDrawn c.args.config gives report.moves.items report.drawn report.world)
    c.new.ensures h))
    c.play_with.ensures.given
