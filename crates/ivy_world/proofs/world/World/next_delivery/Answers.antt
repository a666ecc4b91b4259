use Rattle.std.proofs.Common.{ap}
use Rattle.ivy_world.specs.declared.round.Round.{Round}
use Rattle.ivy_world.proofs.world.World.next_delivery.Goals as goal

pub returns-in-Turn-clause-none : goal.returns-in-Turn-clause-none
returns-in-Turn-clause-none g c =
    c.in-Turn.ensures.next.1 (ap (λ (r : Round). r.turn) c.first.ensures)
