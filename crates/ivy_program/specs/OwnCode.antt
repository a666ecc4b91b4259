-- Own code as a program that runs.
use Rattle.std.specs.Prelude.{◌≡◌, ℕ, Bool, ◌+◌, ◌-◌, ◌<◌, ◌≤◌, List, [], ◌∷◌, ◌++◌, length, slice_get, All, Option, Some, None}
use Rattle.ivy_model.specs.declared.Call.{Call}
use Rattle.ivy_model.specs.stated.Legal.{HasWidth}
use Rattle.ivy_program.specs.stated.Programs.{Called, HandedFetch, calls_in}
use Rattle.ivy_program.specs.Programs.{IsCalled, ahead, handed}
use Rattle.ivy_program.specs.stated.States.{first_state, gone_to}
use Rattle.ivy_program.specs.stated.InstructionSteps.{Process, Asks, step_of}
use Rattle.ivy_program.specs.InstructionSteps.{HasEnded}

-- its owner makes these further rows of calls
abbrev pub process_handed : List (List Call) → Process → Process
process_handed more p = record { program = handed more p.program; state = p.state }

-- its owner has this page fetched ahead too
abbrev pub process_ahead : ℕ → Bool → Process → Process
process_ahead page write p =
    record { program = ahead page write p.program; state = p.state }

-- own code that has no call without a reply, so that its owner may make one
pub record IsFree (p : Process) : Type 0 where
  pub called : IsCalled p.program
  pub ended : HasEnded p

-- whatever call of a legal width its owner makes next, it asks for that one
abbrev pub AsksNext : Process → Type 0
AsksNext p = (call : Call) → HasWidth call
    → step_of (process_handed ((call ∷ []) ∷ []) p) ≡ Asks call

-- own code that has these pages fetched ahead, was answered these rows of calls, and has made this
-- one more, if there is one, that has no reply yet
abbrev pub asking : List HandedFetch → List (List Call) → Option Call → Process
asking fetches answered None = record {
  program = Called answered fetches;
  state = gone_to first_state (length (calls_in answered));
}
asking fetches answered (Some call) = record {
  program = Called (answered ++ (call ∷ []) ∷ []) fetches;
  state = gone_to first_state (length (calls_in answered));
}

-- own code that was answered each call that it has made
abbrev pub Rests : Process → Type 0
Rests p = (fetches : List HandedFetch) × (rows : List (List Call)) × (p ≡ asking fetches rows None)

-- own code, so many of whose calls have no reply yet
pub record LacksReplies (left : ℕ) (p : Process) : Type 0 where
  pub fetches : List HandedFetch
  pub rows : List (List Call)
  pub program : p.program ≡ Called rows fetches
  pub all : p.state.place + left ≡ length (calls_in rows)

-- own code that has these pages fetched ahead, and has made these rows of calls, of which the last so
-- many have no reply yet
abbrev pub awaiting : List HandedFetch → List (List Call) → ℕ → Process
awaiting fetches rows left = record {
  program = Called rows fetches;
  state = gone_to first_state (length (calls_in rows) - left);
}

-- the last of these rows has so many calls or more, each of a width that a word can have, and ends
-- by this one
pub record EndsBy (rows : List (List Call)) (last : Option Call) (left : ℕ) : Type 0 where
  pub before : List (List Call)
  pub row : List Call
  pub rows_are : rows ≡ before ++ row ∷ []
  pub enough : left ≤ length row
  pub wide : All HasWidth row
  pub ends : slice_get row (length row - 1) ≡ last

-- the calls without a reply, if there are any, were made together, and this is the last of them
pub record IsLastOf (rows : List (List Call)) (last : Option Call) (left : ℕ) : Type 0 where
  pub together : 0 < left → EndsBy rows last left
