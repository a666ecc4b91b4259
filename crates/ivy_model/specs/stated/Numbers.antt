-- The numbers of the faults, which a refused call and a printed refusal carry.
use Rattle.std.specs.Prelude.{ℕ}
use Rattle.ivy_model.specs.declared.fault.Fault.{Fault}
use Rattle.ivy_model.specs.declared.fault.Fault.TheVariants.{Memory, BadConfig, Misaligned}
use Rattle.ivy_model.specs.declared.fault.Fault.TheVariants.{OutOfRange, Reserved, NoSuchCount}
use Rattle.ivy_model.specs.declared.fault.Fault.TheVariants.{CountFull, ZeroSize, NoRoom, NotABlock}
use Rattle.ivy_model.specs.declared.fault.Fault.TheVariants.{ShortFrame, BadMagic, BadVersion}
use Rattle.ivy_model.specs.declared.fault.Fault.TheVariants.{BadKind, BadNode, BadBody}
use Rattle.ivy_model.specs.declared.fault.Fault.TheVariants.{NumbersSpent, Busy, NoSuchFrame}
use Rattle.ivy_model.specs.declared.fault.Fault.TheVariants.{ProgramFault, TurnLimit}

abbrev pub fault_number : Fault → ℕ
fault_number Memory = 1
fault_number BadConfig = 2
fault_number Misaligned = 3
fault_number OutOfRange = 4
fault_number Reserved = 5
fault_number NoSuchCount = 6
fault_number CountFull = 7
fault_number ZeroSize = 8
fault_number NoRoom = 9
fault_number NotABlock = 10
fault_number ShortFrame = 11
fault_number BadMagic = 12
fault_number BadVersion = 13
fault_number BadKind = 14
fault_number BadNode = 15
fault_number BadBody = 16
fault_number NumbersSpent = 17
fault_number Busy = 18
fault_number NoSuchFrame = 19
fault_number (ProgramFault line) = 20
fault_number TurnLimit = 21
