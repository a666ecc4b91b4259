-- Runs that grow at their end, and the calls that programs make.
use Rattle.std.proofs.Common.{◌≡◌, ℕ, suc, zero, List, [], ◌∷◌, ◌++◌, Bool, true, false, if◌then◌else◌, Option, Some, None, refl, ap, subst, slice_get, length, lit<}
use Rattle.ivy_model.specs.declared.Call.{Call}
use Rattle.ivy_model.specs.declared.Record.{Record}
use Rattle.ivy_model.specs.stated.Legal.{HasWidth, IsWidth}
use Rattle.ivy_program.specs.declared.instruction.Width.{Width}
use Rattle.ivy_program.specs.declared.instruction.Width.TheVariants.{One, Two, Four, Eight}
use Rattle.ivy_program.specs.declared.instruction.Instruction.{Instruction}
use Rattle.ivy_program.specs.declared.instruction.Instruction.TheVariants.{Set, Move, Compute, Status, Print, Jump, JumpIfZero, Stop}
use Rattle.ivy_program.specs.stated.Instructions.{bytes_in}
use Rattle.ivy_program.specs.stated.States.{State}
use Rattle.ivy_program.specs.stated.Programs.{Program, Written, Called, calls_in, has_width}
use Rattle.ivy_program.specs.stated.InstructionSteps.{Step, Local, Asks, Ends, step, step_at, called_at, after_reply}
use Rattle.ivy_program.specs.stated.ProgramRuns.{StepsTo, Runs}
use Rattle.ivy_program.proofs.reading.Widths.{has_width_found}

leads_on : (p : Program) (n : ℕ) (old mid new : State) → StepsTo p n old mid
    → step p mid ≡ Local new → StepsTo p (suc n) old new
leads_on p zero old mid new e h = (new, subst (λ s. step p s ≡ Local new) e h, refl)
leads_on p (suc n) old mid new l h = (l.0, l.1, leads_on p n l.0 mid new l.2 h)

-- a run goes on by one instruction of its own
pub runs_on : (p : Program) (rs : List Record) (old mid new : State) → Runs p old rs mid
    → step p mid ≡ Local new → Runs p old rs new
runs_on p [] old mid new run h = (suc run.0, leads_on p run.0 old mid new run.1 h)
runs_on p (r ∷ rs) old mid new run h =
    (run.0, run.1, run.2, runs_on p rs (after_reply p run.0 r.reply) mid new run.3 h)

-- a run goes on by one call and its reply
pub runs_answered : (p : Program) (rs : List Record) (old mid : State) (r : Record)
    → Runs p old rs mid → step p mid ≡ Asks r.call
    → Runs p old (rs ++ r ∷ []) (after_reply p mid r.reply)
runs_answered p [] old mid r run h = (mid, run, h, (0, refl))
runs_answered p (q ∷ rs) old mid r run h =
    (run.0, run.1, run.2, runs_answered p rs (after_reply p run.0 q.reply) mid r run.3 h)

is_width : (w : Width) → IsWidth (bytes_in w)
is_width One = (0, lit< tt, refl)
is_width Two = (1, lit< tt, refl)
is_width Four = (2, lit< tt, refl)
is_width Eight = (3, lit< tt, refl)

abbrev asked : Call → Step → Call
asked c (Local s) = c
asked c (Asks d) = d
asked c Ends = c

legal_at : (n : ℕ) (s : State) (i : Option Instruction) (c : Call) → step_at n s i ≡ Asks c
    → HasWidth c
legal_at n s None c h = cc
legal_at n s (Some (Set to value)) c h = cc
legal_at n s (Some (Move to from)) c h = cc
legal_at n s (Some (Compute operation to left right)) c h = cc
legal_at n s (Some (Status to)) c h = cc
legal_at n s (Some (Print from)) c h = cc
legal_at n s (Some (Jump place)) c h = cc
legal_at n s (Some (JumpIfZero from place)) c h = cc
legal_at n s (Some Stop) c h = cc
-- the others make a call
legal_at n s (Some i) c h = subst HasWidth (ap (asked c) h) (search is_width)

called_by : (b : Bool) (d c : Call) → has_width d ≡ b → (if b then Asks d else Ends) ≡ Asks c
    → HasWidth c
called_by true d c w h = subst HasWidth (ap (asked c) h) (has_width_found d w)
called_by false d c w h = cc

called_legal : (o : Option Call) (c : Call) → called_at o ≡ Asks c → HasWidth c
called_legal None c h = cc
called_legal (Some d) c h = called_by (has_width d) d c refl h

-- an access that a program asks for has 1, 2, 4 or 8 bytes
pub asked_legal : (p : Program) (s : State) (c : Call) → step p s ≡ Asks c → HasWidth c
asked_legal (Written is) s c h = legal_at (length is) s (slice_get is s.place) c h
asked_legal (Called rows fs) s c h = called_legal (slice_get (calls_in rows) s.place) c h
