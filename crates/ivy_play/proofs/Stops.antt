-- A play that was stopped.
use Rattle.std.proofs.Common.{◌≡◌, Result, Ok, Err, subst}
use Rattle.std.specs.Prelude.{IfErr, IsErrOf, true, false}
use Rattle.ivy_model.specs.declared.Fault.{Fault}
use Rattle.ivy_model.specs.declared.Fault.TheVariants.{BadConfig}
use Rattle.ivy_play.specs.Faults.{IsPlayStop, IsPlayFault}

fault_of_stop : (fault : Fault) → IsPlayStop fault → IsPlayFault fault
fault_of_stop BadConfig stop = tt
fault_of_stop fault stop = stop

-- so it gives a fault of plays
pub stop_is_fault : {X : Type 0} (r : Result X Fault) → IfErr r IsPlayStop → IfErr r IsPlayFault
stop_is_fault (Ok x) stop = tt
stop_is_fault (Err fault) stop = fault_of_stop fault stop

-- and not the one of configurations
pub stop_is_not_bad : {X : Type 0} (r : Result X Fault) → IfErr r IsPlayStop → IsErrOf r BadConfig → ⊥
stop_is_not_bad r stop is =
    (let wrong : false ≡ true = subst (λ x. IfErr x IsPlayStop) is stop in absurd cc)
