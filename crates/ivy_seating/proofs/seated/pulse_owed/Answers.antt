use Rattle.ivy_seating.proofs.Kept.{pulsed_keeps}
use Rattle.ivy_seating.proofs.seated.pulse_owed.Goals as goal

pub returns-in_ok-pulse-clause-own : goal.returns-in_ok-pulse-clause-own
returns-in_ok-pulse-clause-own g c =
    pulsed_keeps c.pulse.result (λ _. c.in-Some.to) c.args.seated.now c.pulse.new.self
    c.pulse.ensures.done
