use Rattle.std.proofs.Common.{◌<◌, ℕ}
use Rattle.ivy_standstill.specs.Delivered.{IsSiteDelivered}
use Rattle.ivy_standstill.proofs.delivered.is_delivered.Given as goal

abbrev pub invariant-loop-from : goal.invariant-loop-from
invariant-loop-from g l = (i : ℕ) → i < l.from → IsSiteDelivered l.sites i
