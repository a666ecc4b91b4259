-- With which exit status a command ends.
use Rattle.std.specs.Prelude.{ℕ, ◌≤◌}
use Rattle.ivy_model.specs.declared.Fault.{Fault}
use Rattle.ivy_model.specs.declared.Fault.TheVariants.{BadConfig, ProgramFault}
use Rattle.ivy_explain.specs.declared.answers.Answered.{Answered}
use Rattle.ivy_explain.specs.declared.answers.Answered.TheVariants.{Done, Asks}
use Rattle.ivy_explain.specs.declared.failure.ScopeFailure.{ScopeFailure}
use Rattle.ivy_explain.specs.declared.failure.ScopeFailure.TheVariants.{Misused, NoGoal, Unreadable, AtFault, NoFolder, Refused}

-- of a refused call: 2 where the configuration or a program is at fault, else 1
abbrev pub fault_status : Fault → ℕ
fault_status BadConfig = 2
fault_status (ProgramFault line) = 2
fault_status _ = 1

-- 2 where the command line, a file or the configuration is at fault, else 1
abbrev pub failure_status : ScopeFailure → ℕ
failure_status (Misused misuse) = 2
failure_status (NoGoal text) = 2
failure_status (Unreadable file) = 2
failure_status (AtFault file) = 2
failure_status (NoFolder folder) = 2
failure_status (Refused fault) = fault_status fault
failure_status _ = 1

-- what needs no run ends with 3 at most
abbrev pub EndsWithin : Answered → Type 0
EndsWithin (Done status) = status ≤ 3
EndsWithin (Asks request) = Unit {0}
