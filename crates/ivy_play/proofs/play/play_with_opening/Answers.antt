use Rattle.ivy_play.proofs.Stops.{stop_is_fault, stop_is_not_bad}
use Rattle.ivy_play.proofs.play.play_with_opening.Goals as goal

-- the world was opened, so its configuration is one
pub returns-clause-bad : goal.returns-clause-bad
returns-clause-bad g c = (
  λ is. absurd (stop_is_not_bad _ c.play.ensures.stop is),
  λ out. (let wrong = c.in_ok-world.ensures.bad.1 out in absurd cc),
)

pub returns-clause-fault : goal.returns-clause-fault
returns-clause-fault g c = stop_is_fault _ c.play.ensures.stop
