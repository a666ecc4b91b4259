-- What a program does is the same where its owner makes further calls, as long as it has not ended.
use Rattle.std.proofs.Common.{◌≡◌, ◌≢◌, ◌∙◌, ◌<◌, ◌+◌, ◌-◌, ℕ, Bool, inl, inr, List, [], ◌∷◌, ◌++◌, drop, length, length-append, slice_get, Option, Some, None, refl, sym, ap, subst, arith, if◌then◌else◌}
use Rattle.std.proofs.lemmas.Bool.{cases_lt, lt-ltb, le-ltb}
use Rattle.std.proofs.lemmas.List.{append_assoc}
use Rattle.std.proofs.lemmas.Option.{slice_get_within}
use Rattle.ivy_model.specs.declared.Call.{Call}
use Rattle.ivy_model.specs.declared.Reply.{Reply}
use Rattle.ivy_program.specs.stated.Programs.{Program, Written, Called, calls_in}
use Rattle.ivy_program.specs.Programs.{IsCalled, ahead, handed}
use Rattle.ivy_program.specs.stated.States.{State}
use Rattle.ivy_program.specs.OwnCode.{process_ahead}
use Rattle.ivy_program.specs.stated.InstructionSteps.{Process, Step, Ends, AsksRow, step, answered_with, called_at, after_reply, up_to_width, behind, along}
use Rattle.ivy_program.proofs.reading.Orders.{get_front}

called_on : (calls more : List Call) (s : State) (o : Option Call) (t : Step)
    → slice_get calls s.place ≡ o → called_at o ≡ t → t ≢ Ends
    → called_at (slice_get (calls ++ more) s.place) ≡ t
called_on calls more s None t there is goes = absurd (goes (sym is))
called_on calls more s (Some c) t there is goes =
    ap called_at
    (get_front calls more s.place (slice_get_within calls s.place c there) ∙ there)
    ∙ is

-- rows behind one another
pub calls-append : (rows more : List (List Call))
    → calls_in (rows ++ more) ≡ calls_in rows ++ calls_in more
calls-append [] more = refl
calls-append (row ∷ rows) more =
    ap (λ xs. row ++ xs) (calls-append rows more)
    ∙ sym (append_assoc row (calls_in rows) (calls_in more))

-- what is behind a place in its row
behind_on : (rows more : List (List Call)) (place : ℕ) → place < length (calls_in rows)
    → behind (rows ++ more) place ≡ behind rows place
behind_on [] more place within = absurd (omega (arith, within))
behind_on (row ∷ rows) more place within = elim (cases_lt place (length row)) [
  | inl low ↦
      ap (λ b. if b then drop (place + 1) row else behind (rows ++ more) (place - length row))
      (lt-ltb place (length row) low)
      ∙ sym (ap (λ b. if b then drop (place + 1) row else behind rows (place - length row))
      (lt-ltb place (length row) low))
  | inr past ↦
      ap (λ b. if b then drop (place + 1) row else behind (rows ++ more) (place - length row))
      (le-ltb place (length row) past)
      ∙ behind_on rows more (place - length row)
      (let long = length-append row (calls_in rows) in omega (arith, within, past, long))
      ∙ sym (ap (λ b. if b then drop (place + 1) row else behind rows (place - length row))
      (le-ltb place (length row) past))
]

-- what is made along with its next call
pub handed_along : (more : List (List Call)) (p : Program) (s : State) → step p s ≢ Ends
    → along (handed more p) s ≡ along p s
handed_along more (Written is) s goes = refl
handed_along more (Called rows fs) s goes =
    ap up_to_width (behind_on rows more s.place (inside (slice_get (calls_in rows) s.place) refl goes))
  where
    inside : (o : Option Call) → slice_get (calls_in rows) s.place ≡ o → called_at o ≢ Ends
        → s.place < length (calls_in rows)
    inside None there goes = absurd (goes refl)
    inside (Some c) there goes = slice_get_within (calls_in rows) s.place c there

-- its step, unless it had ended
pub handed_step : (more : List (List Call)) (p : Program) (s : State) (t : Step) → step p s ≡ t → t ≢ Ends
    → step (handed more p) s ≡ t
handed_step more (Written is) s t e goes = e
handed_step more (Called rows fs) s t e goes =
    ap (λ calls. called_at (slice_get calls s.place)) (calls-append rows more)
    ∙ called_on (calls_in rows) (calls_in more) s (slice_get (calls_in rows) s.place) t refl e goes

-- what it does with a reply
pub handed_reply : (more : List (List Call)) (p : Program) (s : State) (r : Reply)
    → after_reply (handed more p) s r ≡ after_reply p s r
handed_reply more (Written is) s r = refl
handed_reply more (Called rows fs) s r = refl

-- own code stays own code
pub handed_called : (more : List (List Call)) (p : Program) → IsCalled p → IsCalled (handed more p)
handed_called more (Written is) called = called
handed_called more (Called rows fs) called = called

-- its owner has a page fetched ahead, and nothing else of it changes
pub ahead_step : (page : ℕ) (write : Bool) (p : Program) (s : State)
    → step (ahead page write p) s ≡ step p s
ahead_step page write (Written is) s = refl
ahead_step page write (Called rows fs) s = refl

pub ahead_along : (page : ℕ) (write : Bool) (p : Program) (s : State)
    → along (ahead page write p) s ≡ along p s
ahead_along page write (Written is) s = refl
ahead_along page write (Called rows fs) s = refl

pub ahead_reply : (page : ℕ) (write : Bool) (p : Program) (s : State) (r : Reply)
    → after_reply (ahead page write p) s r ≡ after_reply p s r
ahead_reply page write (Written is) s r = refl
ahead_reply page write (Called rows fs) s r = refl

pub ahead_called : (page : ℕ) (write : Bool) (p : Program) → IsCalled p
    → IsCalled (ahead page write p)
ahead_called page write (Written is) called = called
ahead_called page write (Called rows fs) called = called

-- so it makes the same calls
pub ahead_row : (page : ℕ) (write : Bool) (p : Process) (calls : List Call) → AsksRow p calls
    → AsksRow (process_ahead page write p) calls
ahead_row page write p [] asks = tt
ahead_row page write p (c ∷ cs) asks = (
  ahead_step page write p.program p.state ∙ asks.0,
  λ r. subst (λ s. AsksRow (record { program = ahead page write p.program; state = s }) cs)
      (sym (ahead_reply page write p.program p.state r))
      (ahead_row page write (answered_with p r) cs (asks.1 r)),
)
