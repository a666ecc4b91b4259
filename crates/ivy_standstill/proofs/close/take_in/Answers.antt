use Rattle.std.proofs.Common.{◌≡◌, Some, ap, sym, ◌∙◌}
use Rattle.ivy_seating.proofs.Seats.{may_give}
use Rattle.ivy_standstill.proofs.Telling.{tells_of, is_so_far}
use Rattle.ivy_standstill.proofs.close.take_in.Goals as goal

pub close-requires-clause-events : goal.close-requires-clause-events
close-requires-clause-events g c =
    may_give g.S.Setup.config g.S.Setup.opened g.S.Setup.programs _ c.args.site.now c.args.pass _
    c.event_list.ensures.is c.requires.seated c.event_list.ensures.made

pub returns-clause-told : goal.returns-clause-told
returns-clause-told g c =
    let same : c.args.site.now.me ≡ c.args.node = sym c.me.ensures ∙ c.if-me-node.false in
    tells_of g.S.Setup.config g.S.Setup.opened g.S.Setup.programs _ _ c.args.pass.known _
    c.args.site.now c.args.node
    c.close.ensures.known (c.requires.seated.node ∙ ap Some same) c.event_list.ensures.is
    (is_so_far g.S.Setup.config g.S.Setup.opened g.S.Setup.programs _ c.args.site.now c.args.pass
    c.args.node
    c.requires.seated c.event_list.ensures.made same)
