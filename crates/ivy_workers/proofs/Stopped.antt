-- Who reached a limit has stopped.
use Rattle.std.proofs.Common.{◌≡◌, Result, Ok, Err, IfErr, ap}
use Rattle.ivy_model.specs.declared.Fault.{Fault}
use Rattle.ivy_model.specs.declared.Fault.TheVariants.{TurnLimit}
use Rattle.ivy_workers.specs.Stops.{IsStop, is_stop}

pub stops : {X : Type 0} (r : Result X Fault) → IfErr r (λ (f : Fault). f ≡ TurnLimit)
    → IfErr r IsStop
stops (Ok x) limit = tt
stops (Err f) limit = ap is_stop limit
