-- One instruction of a program, and what its reply changes.
use Rattle.std.specs.Prelude.{◌≡◌, ◌==◌, ◌+◌, ◌-◌, ℕ, List, [], ◌∷◌, Option, Some, None, drop, nat_lt, slice_get, length, if◌then◌else◌}
use Rattle.ivy_model.specs.declared.Call.{Call}
use Rattle.ivy_model.specs.declared.Call.TheVariants as call
use Rattle.ivy_model.specs.declared.Reply.{Reply}
use Rattle.ivy_model.specs.declared.Reply.TheVariants.{Value, Done, Refused}
use Rattle.ivy_program.specs.declared.instruction.Instruction.{Instruction}
use Rattle.ivy_program.specs.declared.instruction.Instruction.TheVariants.{Set, Move, Compute, Load, Store, Swap, Cas, FetchAdd, Count, Advance, Await, Alloc, Free, Status, Print, Jump, JumpIfZero, Stop}
use Rattle.ivy_program.specs.declared.machine.Next.TheVariants as next
use Rattle.ivy_program.specs.stated.Instructions.{bytes_in, result_of, receiver_of}
use Rattle.ivy_program.specs.stated.Programs.{Program, Written, Called, calls_in, has_width}
use Rattle.ivy_program.specs.stated.States.{State, value_in, gone_to, moved_on, put, printed, with_status}

-- what comes next: an instruction of its own and the state after it, a call of the memory, or the
-- end
pub data Step : Type 0 where
  Local : State → Step
  Asks : Call → Step
  Ends : Step

-- the access that an instruction makes to a word of the heap, if it makes one
abbrev pub access_of : State → Instruction → Option Call
access_of s (Load width to addr) = Some (call.Load (bytes_in width) (value_in s addr))
access_of s (Store width addr from) =
    Some (call.Store (bytes_in width) (value_in s addr) (value_in s from))
access_of s (Swap width to addr from) =
    Some (call.Swap (bytes_in width) (value_in s addr) (value_in s from))
access_of s (Cas width to addr expected from) =
    Some (call.Cas (bytes_in width) (value_in s addr) (value_in s expected) (value_in s from))
access_of s (FetchAdd width to addr from) =
    Some (call.FetchAdd (bytes_in width) (value_in s addr) (value_in s from))
access_of s _ = None

-- the call that an instruction makes, if it makes one
abbrev pub call_of : State → Instruction → Option Call
call_of s (Count to count) = Some (call.Count (value_in s count))
call_of s (Advance count) = Some (call.Advance (value_in s count))
call_of s (Await to count least) = Some (call.Await (value_in s count) (value_in s least))
call_of s (Alloc to size) = Some (call.Alloc (value_in s size))
call_of s (Free addr) = Some (call.Free (value_in s addr))
call_of s i = access_of s i

-- what an instruction without a call writes: a register, or the output
abbrev pub after_instruction : State → Instruction → State
after_instruction s (Set to value) = put s to value
after_instruction s (Move to from) = put s to (value_in s from)
after_instruction s (Compute operation to left right) =
    put s to (result_of operation (value_in s left) (value_in s right))
after_instruction s (Status to) = put s to s.status
after_instruction s (Print from) = printed s (value_in s from)
after_instruction s _ = s

-- where a program of so many instructions goes on after one; `stop` goes past the last
abbrev pub place_after : ℕ → State → Instruction → ℕ
place_after count s (Jump place) = place
place_after count s (JumpIfZero from place) = if value_in s from == 0 then place else s.place + 1
place_after count s Stop = count
place_after count s _ = s.place + 1

-- an instruction makes its call, or leads to this state
abbrev pub step_told : Option Call → State → Step
step_told (Some call) s = Asks call
step_told None s = Local s

-- what an instruction of a program of so many does
abbrev pub step_by : ℕ → State → Instruction → Step
step_by count s i =
    step_told (call_of s i) (gone_to (after_instruction s i) (place_after count s i))

-- where there is no instruction, the program has ended
abbrev pub step_at : ℕ → State → Option Instruction → Step
step_at count s None = Ends
step_at count s (Some i) = step_by count s i

-- own code makes its next call, if its width is one that a word can have; else it has ended
abbrev pub called_at : Option Call → Step
called_at (Some call) = if has_width call then Asks call else Ends
called_at None = Ends

-- the step of the program in this state: it ends past its last instruction, or past the last call
-- that its owner has made
abbrev pub step : Program → State → Step
step (Written instructions) s =
    step_at (length instructions) s (slice_get instructions s.place)
step (Called rows fetches) s = called_at (slice_get (calls_in rows) s.place)

-- the value goes to the register, if there is one for it
abbrev pub received : State → Option ℕ → ℕ → State
received s (Some to) value = put s to value
received s None value = s

-- the register for the value of the reply to the call of this instruction
abbrev pub receiver : Option Instruction → Option ℕ
receiver (Some i) = receiver_of i
receiver None = None

-- the state after the reply to the call of this instruction: a refusal keeps the register
abbrev pub replied : State → Option Instruction → Reply → State
replied s i (Value value) = moved_on (with_status (received s (receiver i) value) 0)
replied s i Done = moved_on (with_status s 0)
replied s i (Refused code) = moved_on (with_status s code)

-- the state after the call that the program makes in this one, with this reply; own code keeps its
-- replies itself
abbrev pub after_reply : Program → State → Reply → State
after_reply (Written instructions) s reply = replied s (slice_get instructions s.place) reply
after_reply (Called rows fetches) s reply = moved_on s

-- a program and how far it has come
pub record Process : Type 0 where
  pub program : Program
  pub state : State

-- the next step of the program
abbrev pub step_of : Process → Step
step_of p = step p.program p.state

-- the same program in this state
abbrev pub at_state : Process → State → Process
at_state p s = record { program = p.program; state = s }

-- the program goes on with the reply to its call
abbrev pub answered_with : Process → Reply → Process
answered_with p reply = at_state p (after_reply p.program p.state reply)

-- of these calls those up to the first whose width no word can have
abbrev pub up_to_width : List Call → List Call
up_to_width [] = []
up_to_width (call ∷ calls) = if has_width call then call ∷ up_to_width calls else []

-- the calls behind this place in its row
abbrev pub behind : List (List Call) → ℕ → List Call
behind [] place = []
behind (row ∷ rows) place =
    if nat_lt place (length row) then drop (place + 1) row else behind rows (place - length row)

-- what is made along with the program's next call: the calls behind it in its row
abbrev pub along : Program → State → List Call
along (Written instructions) s = []
along (Called rows fetches) s = up_to_width (behind rows s.place)

abbrev pub along_of : Process → List Call
along_of p = along p.program p.state

-- the program makes these calls one after another, whatever each of them is answered
abbrev pub AsksRow : Process → List Call → Type 0
AsksRow p [] = Unit {0}
AsksRow p (call ∷ calls) =
    (step_of p ≡ Asks call) × ((r : Reply) → AsksRow (answered_with p r) calls)
