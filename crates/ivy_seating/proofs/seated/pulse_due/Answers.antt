use Rattle.ivy_seating.proofs.Kept.{pulsed_keeps}
use Rattle.ivy_seating.proofs.seated.pulse_due.Goals as goal

pub returns-in_ok-to-clause-own : goal.returns-in_ok-to-clause-own
returns-in_ok-to-clause-own g c =
    pulsed_keeps c.pulse_next.result (λ to. to) c.args.seated.now c.pulse_next.new.self
    c.pulse_next.ensures.done
