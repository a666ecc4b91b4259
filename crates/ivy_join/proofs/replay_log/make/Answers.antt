use Rattle.std.proofs.Common.{subst}
use Rattle.ivy_join.specs.ReplaySites.{CanBeTaken}
use Rattle.ivy_join.proofs.replay_log.make.Goals as goal

pub returns-in-Turns-clause-on : goal.returns-in-Turns-clause-on
returns-in-Turns-clause-on g c = λ sent limits took there. c.make_turns.ensures.on sent

pub returns-in-Delivered-clause-on : goal.returns-in-Delivered-clause-on
returns-in-Delivered-clause-on g c =
    λ sent limits took there. c.make_delivery.ensures.on sent limits
    (subst (CanBeTaken sent) c.in-Delivered.is there)

pub returns-in-Pulsed-clause-on : goal.returns-in-Pulsed-clause-on
returns-in-Pulsed-clause-on g c = λ sent limits took there. c.make_pulse.ensures.on sent
