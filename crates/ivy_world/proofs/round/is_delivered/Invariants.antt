use Rattle.std.proofs.Common.{◌<◌, ℕ}
use Rattle.ivy_world.specs.WorldRounds.{IsDeliveredFrom}
use Rattle.ivy_world.proofs.round.is_delivered.Given as goal

abbrev pub invariant-loop-from : goal.invariant-loop-from
invariant-loop-from g l = (i : ℕ) → i < l.from → IsDeliveredFrom l.sites i
