-- What a command has printed where it was carried out, and with which exit status a command ends.
use Rattle.std.specs.Prelude.{◌≡◌, ℕ, Bool, List, length, map, Option, Result, Ok, Err, if◌then◌else◌}
use Rattle.std.specs.Io.KnownBytes.{Appends}
use Rattle.ivy_arguments.specs.declared.IvyCommand.{IvyCommand}
use Rattle.ivy_arguments.specs.declared.IvyCommand.TheVariants as request
use Rattle.ivy_model.specs.declared.Config.{Config}
use Rattle.ivy_model.specs.declared.Fault.{Fault}
use Rattle.ivy_model.specs.declared.Fault.TheVariants.{BadConfig, ProgramFault}
use Rattle.ivy_host.specs.declared.opening.Opening.TheVariants.{Configured}
use Rattle.ivy_program.specs.stated.Programs.{Program}
use Rattle.ivy_program.specs.texts.Texts.{SpellsText}
use Rattle.ivy_session.specs.Faults.{IsSessionFault}
use Rattle.ivy_seating.specs.Reports.{NodeReport, IsReport}
use Rattle.ivy_simulation.specs.Judged.{PrintsVerdict}
use Rattle.ivy_simulation.specs.Nodes.{outputs_text}
use Rattle.ivy_simulation.specs.Played.{PrintsDrawn, PrintsSchedule, config_of}
use Rattle.ivy_commands.specs.declared.failure.Failure.{Failure}
use Rattle.ivy_commands.specs.declared.failure.Failure.TheVariants.{BadCommandLine, CannotRead, Refused, Unwritten}

module _ (c : Config) (programs : List Program) (old new : Option (List ℕ)) where
  -- a session of these programs has ended, and what its report says that they printed was printed
  pub record PrintsSession : Type 0 where
    pub report : List NodeReport
    pub is : IsReport c Configured programs report
    pub printed : Appends old new (outputs_text (map (λ (n : NodeReport). n.output) report))

-- some text spells these programs
abbrev pub AreSpelled : List Program → Type 0
AreSpelled programs = (text : List ℕ) × SpellsText text programs

-- programs that some text spells have this
abbrev pub SomeSpelled : (List Program → Type 0) → Type 0
SomeSpelled P = (programs : List Program) × AreSpelled programs × P programs

-- the request was carried out with this status
abbrev pub IsCarriedOut : IvyCommand → ℕ → Option (List ℕ) → Option (List ℕ) → Type 0
IsCarriedOut (request.Run file turns capacity pulse settings) status old new = (status ≡ 0)
    × SomeSpelled (λ ps. PrintsSession (config_of settings (length ps)) ps old new)
IsCarriedOut (request.Step file schedule settings) status old new = (status ≡ 0)
    × SomeSpelled
    (λ ps. (text : List ℕ) × PrintsSchedule (config_of settings (length ps)) ps text old new)
IsCarriedOut (request.Sim file seed moves settings) status old new = (status ≡ 0)
    × SomeSpelled (λ ps. PrintsDrawn (config_of settings (length ps)) ps old new seed moves)
IsCarriedOut (request.Check order) status old new =
    (yes : Bool) × (status ≡ (if yes then 0 else 3))
    × ((text : List ℕ) × PrintsVerdict text yes old new)

-- some request was
abbrev pub IsRequestDone : ℕ → Option (List ℕ) → Option (List ℕ) → Type 0
IsRequestDone status old new = (request : IvyCommand) × IsCarriedOut request status old new

-- the exit status of a refused call: 2 where the configuration or a program is at fault, else 1
abbrev pub fault_status : Fault → ℕ
fault_status BadConfig = 2
fault_status (ProgramFault line) = 2
fault_status _ = 1

-- 2 where the command line, a file or the configuration is at fault, else 1
abbrev pub failure_status : Failure → ℕ
failure_status BadCommandLine = 2
failure_status (CannotRead name) = 2
failure_status (Refused fault) = fault_status fault
failure_status Unwritten = 1

-- standard output took no more, or a session was refused so
abbrev pub IsSessionFailure : Failure → Type 0
IsSessionFailure Unwritten = Unit {0}
IsSessionFailure (Refused fault) = IsSessionFault fault
IsSessionFailure _ = ⊥

-- a failure has its status, whether standard output took all or not; where it did not, nothing is
-- done
abbrev pub final_status : {E : Type 0} → Result ℕ Failure → Result (Unit {0}) E → ℕ
final_status (Err failure) flushed = failure_status failure
final_status (Ok status) (Ok took) = status
final_status (Ok status) (Err error) = 1
