use Rattle.std.proofs.Common.{arith, ◌≡◌, length, take, sym, ap, ◌∙◌, subst}
use Rattle.ivy_model.specs.declared.Config.{Config}
use Rattle.ivy_play.specs.Endings.{ComesToRest}
use Rattle.ivy_play.proofs.Reported.{reported}
use Rattle.ivy_play.specs.Given.{AreGiven}
use Rattle.ivy_play.specs.Played.{HasDrawn, first_moment}
use Rattle.ivy_play.proofs.Drawing.{are_on}
use Rattle.ivy_play.proofs.Ending.{given_there}
use Rattle.ivy_play.proofs.Ends.{stands_there}
use Rattle.ivy_play.proofs.Playing.{is_played}
use Rattle.ivy_play.proofs.play.close.Goals as goal

pub returns-clause-opened : goal.returns-clause-opened
returns-clause-opened g c =
    (c.in_ok-ended.ensures.played (first_moment g.S.Setting.opened g.S.Setting.config)
    c.in_ok-played.ensures.played.0).opened

pub returns-clause-report : goal.returns-clause-report
returns-clause-report g c =
    let p = c.in_ok-played.played in
    let e = c.in_ok-ended.ended in
    let all = c.in_ok-outcomes.ensures.all in
    let outcomes = c.in_ok-outcomes.outcomes in
    let config : e.world.config ≡ p.world.config = c.in_ok-ended.ensures.config in
    let nodes : e.world.config.nodes ≡ p.world.config.nodes = ap (λ (k : Config). k.nodes) config in
    let count : length outcomes.items ≡ e.world.config.nodes =
    omega (arith, all, outcomes.ok.0, nodes) in
    reported g.S.Setting.config (g.W.Work.done c.args.work.now) e.moves.items e.world
    outcomes.items e.rest
    (is_played g.S.Setting.opened g.S.Setting.config e.moves.items e.world
    (c.in_ok-ended.ensures.played (first_moment g.S.Setting.opened g.S.Setting.config)
    c.in_ok-played.ensures.played.0))
    (c.in_ok-ended.ensures.still c.in_ok-played.ensures.played.1) c.keeps-2.ensures count
    (given_there (g.W.Work.done c.args.work.now) p.world.world e.world.world outcomes.items
    c.in_ok-ended.ensures.cores c.in_ok-outcomes.ensures.given)

pub returns-clause-rests : goal.returns-clause-rests
returns-clause-rests g c =
    let e = c.in_ok-ended.ended in
    let outcomes = c.in_ok-outcomes.outcomes in
    let same : c.deref.result.now ≡ outcomes.items = c.deref.ensures.value in
    let config : e.world.config ≡ g.S.Setting.config =
    c.in_ok-ended.ensures.config ∙ c.in_ok-played.ensures.played.0.config in
    subst
    (λ items. ComesToRest g.S.Setting.config c.args.settle e.moves.items e.drawn e.world.world
    items e.rest)
    same
    (subst
    (λ (k : Config). ComesToRest k c.args.settle e.moves.items e.drawn e.world.world
    c.deref.result.now e.rest)
    config c.in_ok-ended.ensures.rests)

pub returns-clause-drawn : goal.returns-clause-drawn
returns-clause-drawn g c =
    let p = c.in_ok-played.played in
    c.in_ok-ended.ensures.drawn g.S.Setting.config
    (subst (λ n. HasDrawn g.S.Setting.config n p.moves.items p.drawn) (sym c.requires.settle)
    c.in_ok-played.ensures.played.2)

pub returns-clause-stand : goal.returns-clause-stand
returns-clause-stand g c i outcome at r given =
    stands_there (λ e. e.answers.items) (λ e. e.is_cut) (λ e. e.out)
    c.in_ok-played.played.world.world c.in_ok-ended.ended.world.world i r outcome
    c.in_ok-ended.ensures.cores (c.in_ok-outcomes.ensures.stand i outcome at r given)

pub returns-clause-given : goal.returns-clause-given
returns-clause-given g c =
    let p = c.in_ok-played.played in
    let e = c.in_ok-ended.ended in
    subst (AreGiven g.S.Setting.config e.moves.items e.world g.S.Setting.gives 0 0)
    (sym c.in_ok-ended.ensures.first)
    (are_on g.S.Setting.config p.moves.items e.moves.items p.world e.world
    c.in_ok-ended.ensures.played (take p.drawn p.moves.items) g.S.Setting.gives 0 0
    c.in_ok-played.ensures.given)
