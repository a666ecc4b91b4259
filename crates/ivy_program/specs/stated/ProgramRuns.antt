-- Histories that are runs of a program.
use Rattle.std.specs.Prelude.{◌≡◌, ℕ, suc, zero, List, [], ◌∷◌}
use Rattle.ivy_model.specs.declared.Record.{Record}
use Rattle.ivy_program.specs.stated.Programs.{Program}
use Rattle.ivy_program.specs.stated.States.{State, first_state}
use Rattle.ivy_program.specs.stated.InstructionSteps.{Local, Asks, Ends, step, after_reply}

-- so many instructions without a call lead from one state to another
abbrev pub StepsTo : Program → ℕ → State → State → Type 0
StepsTo program zero old new = new ≡ old
StepsTo program (suc n) old new =
    (mid : State) × (step program old ≡ Local mid) × StepsTo program n mid new

-- some instructions without a call lead there, or none
abbrev pub Reaches : Program → State → State → Type 0
Reaches program old new = (n : ℕ) × StepsTo program n old new

-- the program makes the calls of the records one after another, each with its reply, and then comes
-- to this state
abbrev pub Runs : Program → State → List Record → State → Type 0
Runs program old [] new = Reaches program old new
Runs program old (r ∷ rs) new =
    (asking : State) × Reaches program old asking × (step program asking ≡ Asks r.call)
    × Runs program (after_reply program asking r.reply) rs new

-- a run of the program from its beginning
abbrev pub IsRunTo : Program → List Record → State → Type 0
IsRunTo program history new = Runs program first_state history new

-- some run of the program from its beginning makes these records
abbrev pub IsRun : Program → List Record → Type 0
IsRun program history = (new : State) × IsRunTo program history new

-- the run to the program's end, with this output
pub record IsWholeRun (program : Program) (history : List Record)
    (output : List ℕ) : Type 0 where
  pub end : State
  pub run : IsRunTo program history end
  pub ended : step program end ≡ Ends
  pub printed : end.output ≡ output
