-- The bounds of a session's limits.
use Rattle.std.specs.Prelude.{◌≤◌}
use Rattle.ivy_workers.specs.declared.limits.Limits.{Limits}

pub record AreLimits (l : Limits) : Type 0 where
  pub some : 1 ≤ l.capacity
  pub most : l.capacity ≤ 65536
  pub turns : 1 ≤ l.turns
  pub pulses : 1 ≤ l.pulse_every
