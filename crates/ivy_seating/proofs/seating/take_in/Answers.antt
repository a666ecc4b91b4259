use Rattle.std.proofs.Common.{rules, ◌≡◌, Some, ap, ◌∙◌}
use Rattle.ivy_program.specs.InstructionSteps.{HasEnded}
use Rattle.ivy_seating.proofs.Seats.{may_give, is_done}
use Rattle.ivy_seating.proofs.Collected.{tells_of}
use Rattle.ivy_seating.proofs.seating.take_in.Goals as goal

pub close-requires-clause-events : goal.close-requires-clause-events
close-requires-clause-events g c =
    may_give g.S.Setup.config g.S.Setup.opened g.S.Setup.programs _ c.args.site.now c.args.pass _
    c.event_list.ensures.is c.requires.seated c.event_list.ensures.made

pub returns-clause-told : goal.returns-clause-told
returns-clause-told g c =
    let same : c.args.site.now.me ≡ c.args.node = search rules in
    let ended : HasEnded c.args.site.now.node.core.process = search rules in
    tells_of g.S.Setup.config g.S.Setup.opened g.S.Setup.programs _ _ c.args.pass.known _
    c.args.site.now c.args.node
    c.close.ensures.known (c.requires.seated.node ∙ ap Some same) c.event_list.ensures.is
    (is_done g.S.Setup.config g.S.Setup.opened g.S.Setup.programs _ c.args.site.now c.args.pass
    c.args.node
    c.requires.seated c.event_list.ensures.made same ended)
