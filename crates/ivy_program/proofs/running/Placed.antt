-- The steps of a program that is written down.
use Rattle.std.proofs.Common.{◌≡◌, ℕ, [], Some, length, slice_get, refl}
use Rattle.ivy_model.specs.declared.Reply.{Reply}
use Rattle.ivy_program.specs.declared.instruction.Instruction.{Instruction}
use Rattle.ivy_program.specs.Instructions.{JumpsWithin}
use Rattle.ivy_program.specs.stated.Programs.{Program, Written, Called, fetches_of}
use Rattle.ivy_program.specs.Programs.{IsWritten, instructions_of}
use Rattle.ivy_program.specs.stated.States.{State}
use Rattle.ivy_program.specs.stated.InstructionSteps.{step, step_at, after_reply, replied, along}
use Rattle.ivy_program.proofs.running.Places.{jumps_inside}

-- it does what its next instruction says
pub written_step : (p : Program) (s : State) → IsWritten p
    → step p s ≡ step_at (length (instructions_of p)) s (slice_get (instructions_of p) s.place)
written_step (Written is) s w = refl
written_step (Called calls fs) s w = absurd w

-- and goes on with a reply as that says
pub written_reply : (p : Program) (s : State) (reply : Reply) → IsWritten p
    → after_reply p s reply ≡ replied s (slice_get (instructions_of p) s.place) reply
written_reply (Written is) s reply w = refl
written_reply (Called calls fs) s reply w = absurd w

-- no call is made along with its next one
pub written_alone : (p : Program) (s : State) → IsWritten p → along p s ≡ []
written_alone (Written is) s w = refl
written_alone (Called rows fs) s w = absurd w

-- each of its instructions jumps inside it
pub written_jumps : (p : Program) (k : ℕ) (i : Instruction) → IsWritten p
    → slice_get (instructions_of p) k ≡ Some i → JumpsWithin (length (instructions_of p)) i
written_jumps (Written is) k i w h = jumps_inside is k i w h
written_jumps (Called calls fs) k i w h = absurd w

-- and has no page fetched
pub written_unfetched : (p : Program) → IsWritten p → fetches_of p ≡ []
written_unfetched (Written is) w = refl
written_unfetched (Called rows fs) w = absurd w
