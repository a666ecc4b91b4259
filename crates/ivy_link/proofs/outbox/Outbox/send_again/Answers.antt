use Rattle.std.proofs.Common.{map, ap, ◌∙◌}
use Rattle.ivy_wire.specs.Lent.{owned_frame}
use Rattle.ivy_link.specs.Holding.{link_of}
use Rattle.ivy_link.proofs.Boxes.{pulsed-fit, pulsed-box, few-added}
use Rattle.ivy_link.proofs.outbox.Outbox.send_again.Goals as goal

pub spell_again-requires-clause-fit : goal.spell_again-requires-clause-fit
spell_again-requires-clause-fit g c =
    pulsed-fit _ _ c.self.view_is c.self.invariant c.args.to _ c.requires.to c.requires.other
    (ap (map owned_frame) c.deref.ensures.value ∙ c.in_ok-frames.ensures.ok)

pub invariant_of-self-2 : goal.invariant_of-self-2
invariant_of-self-2 g c =
    pulsed-box _ _ c.self.view_is c.self.invariant c.args.to (link_of c.pulsed.new.self)
    c.spell_again.new.strings.items c.pulsed.new.self.held (ap link_of c.pulsed.ensures.after)

pub returns-clause-few : goal.returns-clause-few
returns-clause-few g c =
    few-added _ _ c.self.view_is c.args.to _ c.spell_again.new.strings.items
    (ap (map owned_frame) c.deref.ensures.value ∙ c.in_ok-frames.ensures.ok)
    c.in_ok-spell_again.ensures.ok
