-- What a session may be refused for.
use Rattle.ivy_model.specs.declared.Fault.{Fault}
use Rattle.ivy_model.specs.declared.Fault.TheVariants.{BadConfig}
use Rattle.ivy_workers.specs.Stops.{IsStop}

-- the configuration, the number of programs or a limit does not suit, or it ends before its programs
abbrev pub IsSessionFault : Fault → Type 0
IsSessionFault BadConfig = Unit {0}
IsSessionFault f = IsStop f
