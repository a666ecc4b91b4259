-- One instruction of a program, and what its reply changes.
use Rattle.std.specs.Prelude.{◌≡◌, ◌-◌, ℕ, List, [], ◌∷◌, slice_get, length, IsSomeAnd}
use Rattle.ivy_model.specs.declared.Call.{Call}
use Rattle.ivy_model.specs.declared.Call.TheVariants as call
use Rattle.ivy_model.specs.declared.Reply.{Reply}
use Rattle.ivy_program.specs.declared.instruction.Instruction.{Instruction}
use Rattle.ivy_program.specs.declared.instruction.Instruction.TheVariants.{Print}
use Rattle.ivy_program.specs.declared.machine.Next.{Next}
use Rattle.ivy_program.specs.declared.machine.Next.TheVariants as next
use Rattle.ivy_program.specs.Programs.{instructions_of}
use Rattle.ivy_program.specs.stated.InstructionSteps.{Asks, AsksRow, Ends, Local, Process, answered_with, at_state, step, step_of}

-- the instruction adds to the output
abbrev pub Prints : Instruction → Type 0
Prints (Print from) = Unit {0}
Prints _ = ⊥

-- the next instruction of the program is one that prints
abbrev pub PrintsNext : Process → Type 0
PrintsNext p = IsSomeAnd (slice_get (instructions_of p.program) p.state.place) Prints

-- the program asks for this call
abbrev pub IsAsking : Process → Type 0
IsAsking p = (call : Call) × (step_of p ≡ Asks call)

-- the program has ended
abbrev pub HasEnded : Process → Type 0
HasEnded p = step_of p ≡ Ends

-- what a step is told as, and what it leaves: a call and the end leave all as it is
abbrev pub TellsStep : Next → Process → Process → Type 0
TellsStep next.Local old new = (step_of old ≡ Local new.state) × (new ≡ at_state old new.state)
TellsStep (next.Call call) old new = (step_of old ≡ Asks call) × (new ≡ old)
TellsStep next.Ended old new = (step_of old ≡ Ends) × (new ≡ old)

-- the program goes on with these replies, one after another
abbrev pub answered_all : Process → List Reply → Process
answered_all p [] = p
answered_all p (reply ∷ replies) = answered_all (answered_with p reply) replies

-- so many calls, whatever each of them is answered
abbrev pub AsksMany : Process → ℕ → Type 0
AsksMany p count = (calls : List Call) × (length calls ≡ count) × AsksRow p calls
