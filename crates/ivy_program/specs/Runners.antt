-- The program that runs, as the definitions see it.
use Rattle.ivy_program.specs.declared.machine.Runner.{Runner}
use Rattle.ivy_program.specs.declared.machine.Runner.TheVariants as runner
use Rattle.ivy_program.specs.Programs.{IsCalled, IsWritten}
use Rattle.ivy_program.specs.stated.InstructionSteps.{Process}

abbrev pub process_of : {A : Type 0} → Runner A → Process
process_of (runner.Interpreter p) = p
process_of (runner.Caller p) = p

-- an interpreter has what is written down, the owner's calls are own code
abbrev pub IsOfItsKind : {A : Type 0} → Runner A → Type 0
IsOfItsKind (runner.Interpreter p) = IsWritten p.program
IsOfItsKind (runner.Caller p) = IsCalled p.program
