use Rattle.ivy_seating.proofs.Kept.{keeps_on, wire_turn_keeps}
use Rattle.ivy_seating.proofs.seated.turn_on_wire.Goals as goal

pub returns-in_err-pulse_owed-clause-own : goal.returns-in_err-pulse_owed-clause-own
returns-in_err-pulse_owed-clause-own g c =
    keeps_on c.args.seated.now.site c.wire_turn_to.new.self.site c.pulse_owed.new.seated.site
    (wire_turn_keeps c.wire_turn_to.result c.args.seated.now c.wire_turn_to.new.self
    c.wire_turn_to.ensures.done)
    c.pulse_owed.ensures.own

pub returns-in_err-pulse_due-clause-own : goal.returns-in_err-pulse_due-clause-own
returns-in_err-pulse_due-clause-own g c =
    keeps_on c.args.seated.now.site c.pulse_owed.new.seated.site c.pulse_due.new.seated.site
    (keeps_on c.args.seated.now.site c.wire_turn_to.new.self.site c.pulse_owed.new.seated.site
    (wire_turn_keeps c.wire_turn_to.result c.args.seated.now c.wire_turn_to.new.self
    c.wire_turn_to.ensures.done)
    c.pulse_owed.ensures.own)
    c.pulse_due.ensures.own

pub returns-clause-own : goal.returns-clause-own
returns-clause-own g c =
    keeps_on c.args.seated.now.site c.pulse_owed.new.seated.site c.pulse_due.new.seated.site
    (keeps_on c.args.seated.now.site c.wire_turn_to.new.self.site c.pulse_owed.new.seated.site
    (wire_turn_keeps c.wire_turn_to.result c.args.seated.now c.wire_turn_to.new.self
    c.wire_turn_to.ensures.done)
    c.pulse_owed.ensures.own)
    c.pulse_due.ensures.own
