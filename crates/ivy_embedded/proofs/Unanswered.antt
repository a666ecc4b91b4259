-- The calls of a process that have no reply yet, as it goes on.
use Rattle.std.proofs.Common.{◌≡◌, ◌≤◌, ◌<◌, ◌⊎◌, inl, inr, ℕ, ◌+◌, ◌-◌, Bool, true, false, List, [], ◌∷◌, ◌++◌, length, slice_get, get_or, Option, Some, None, if◌then◌else◌, refl, sym, ap, ◌∙◌, arith}
use Rattle.std.proofs.lemmas.Bool.{cases_lt}
use Rattle.std.proofs.lemmas.List.{length-append}
use Rattle.std.proofs.lemmas.Option.{none-some, slice_get_past, slice_get_within, slice_get-get_or}
use Rattle.ivy_model.specs.declared.Call.{Call}
use Rattle.ivy_model.specs.declared.Reply.{Reply}
use Rattle.ivy_model.specs.stated.Legal.{HasWidth}
use Rattle.ivy_program.specs.OwnCode.{IsFree, process_handed}
use Rattle.ivy_program.specs.stated.Programs.{HandedFetch, Program, Written, Called, calls_in, has_width}
use Rattle.ivy_program.specs.Programs.{IsCalled}
use Rattle.ivy_program.specs.stated.States.{State}
use Rattle.ivy_program.specs.stated.InstructionSteps.{Process, Asks, Ends, Local, after_reply, answered_with, at_state, called_at, step_of}
use Rattle.ivy_program.proofs.reading.Orders.{get_front}
use Rattle.ivy_program.proofs.reading.Widths.{has_width_test}
use Rattle.ivy_program.proofs.running.Along.{get_back}
use Rattle.ivy_program.proofs.running.Handing.{calls-append}
use Rattle.ivy_embedded.specs.Lending.{HasUnanswered}

-- each call has its reply
abbrev pub IsAnswered : Process → Type 0
IsAnswered p = (call : Call) → HasUnanswered p call → ⊥

-- this program in this state
abbrev at_program : Program → State → Process
at_program program state = record { program = program; state = state }

replied_less : (program : Program) (s : State) (reply : Reply) (call : Call)
    → HasUnanswered (at_program program (after_reply program s reply)) call
    → HasUnanswered (at_program program s) call
replied_less (Written is) s reply call h =
    absurd (none-some call (sym (slice_get_past List.[] h.place (omega arith)) ∙ h.made))
replied_less (Called rows fs) s reply call h =
    let low = h.from in record { place = h.place; from = omega (arith, low); made = h.made }

-- a reply leaves none that was none before
pub answered_less : (p : Process) (reply : Reply) (call : Call)
    → HasUnanswered (answered_with p reply) call → HasUnanswered p call
answered_less p reply call h =
    let less = replied_less p.program p.state reply call
    (record { place = h.place; from = h.from; made = h.made }) in
    record { place = less.place; from = less.from; made = less.made }

no_local : (b : Bool) (call : Call) (s : State) → (if b then Asks call else Ends) ≡ Local s → ⊥
no_local true call s is = absurd cc
no_local false call s is = absurd cc

never_local : (o : Option Call) (s : State) → called_at o ≡ Local s → ⊥
never_local None s is = absurd cc
never_local (Some call) s is = no_local (has_width call) call s is

-- own code has no instruction of its own
pub local_less : (p : Process) (s : State) → IsCalled p.program → step_of p ≡ Local s → ⊥
local_less p s called is = by p.program p.state called is
  where
    by : (program : Program) (state : State) → IsCalled program
        → step_of (at_program program state) ≡ Local s → ⊥
    by (Written instructions) state called is = called
    by (Called rows fs) state called is = never_local (slice_get (calls_in rows) state.place) s is

-- a call that has no reply once more were made has none before, or is one of those
pub handed_or : (more : List (List Call)) (p : Process) (call : Call)
    → HasUnanswered (process_handed more p) call
    → HasUnanswered p call ⊎ ((k : ℕ) × (slice_get (calls_in more) k ≡ Some call))
handed_or more p call h = by p.program p.state (record { place = h.place; from = h.from; made = h.made })
  where
    by : (program : Program) (state : State) → HasUnanswered (process_handed more (at_program program state)) call
        → HasUnanswered (at_program program state) call
        ⊎ ((k : ℕ) × (slice_get (calls_in more) k ≡ Some call))
    by (Written is) state h =
        absurd (none-some call (sym (slice_get_past List.[] h.place (omega arith)) ∙ h.made))
    by (Called rows fs) state h =
        let whole = sym (ap (λ calls. slice_get calls h.place) (calls-append rows more)) ∙ h.made in
        elim (cases_lt h.place (length (calls_in rows))) [
          | inl low ↦ inl (record {
            place = h.place;
            from = h.from;
            made = sym (get_front (calls_in rows) (calls_in more) h.place low) ∙ whole;
          })
          | inr past ↦ inr (
            h.place - length (calls_in rows),
            sym (get_back (calls_in rows) (calls_in more) h.place past) ∙ whole,
          )
        ]

-- where each has its reply, the place is past them
past_all : (fs : List HandedFetch) (rows : List (List Call)) (s : State)
    → IsAnswered (at_program (Called rows fs) s)
    → length (calls_in rows) ≤ s.place
past_all fs rows s none = elim (cases_lt s.place (length (calls_in rows))) [
  | inl low ↦ elim (calls_in rows) as (λ calls. s.place < length calls
      → ((call : Call) → slice_get calls s.place ≡ Some call → ⊥) → length calls ≤ s.place) [
        | [] ↦ λ less not. omega (arith, less)
        | call ∷ calls ↦ λ less not.
            absurd (not (get_or (call ∷ calls) s.place call)
            (slice_get-get_or (call ∷ calls) s.place call less))
      ] low (λ call made. none call (record { place = s.place; from = omega arith; made = made }))
  | inr past ↦ past
]

-- one more that is answered leaves none
pub one_answered : (p : Process) (call : Call) (reply : Reply) → IsAnswered p
    → IsAnswered (answered_with (process_handed ((call ∷ []) ∷ []) p) reply)
one_answered p call reply none other h =
    by p.program p.state
    (λ c u. none c (record { place = u.place; from = u.from; made = u.made }))
    (record { place = h.place; from = h.from; made = h.made })
  where
    by : (program : Program) (state : State) → IsAnswered (at_program program state)
        → HasUnanswered (answered_with (process_handed ((call ∷ []) ∷ []) (at_program program state)) reply) other
        → ⊥
    by (Written is) state none h =
        none-some other (sym (slice_get_past List.[] h.place (omega arith)) ∙ h.made)
    by (Called rows fs) state none h =
        let past = past_all fs rows state none in
        let low = h.from in
        let within = slice_get_within (calls_in (rows ++ (call ∷ []) ∷ [])) h.place other h.made in
        let long = ap length (calls-append rows ((call ∷ []) ∷ []))
        ∙ length-append (calls_in rows) (call ∷ []) in
        absurd (omega (arith, past, low, within, long))

not_ended : (b : Bool) (call : Call) → b ≡ true → (if b then Asks call else Ends) ≡ Ends → ⊥
not_ended true call wide is = absurd cc
not_ended false call wide is = absurd cc

-- own code whose owner may make a call was answered each, where each is one that it can make
pub free_answered : (p : Process) → IsFree p → ((call : Call) → HasUnanswered p call → HasWidth call)
    → IsAnswered p
free_answered p free wide other h =
    by p.program p.state free.ended
    (λ c u. wide c (record { place = u.place; from = u.from; made = u.made }))
    (record { place = h.place; from = h.from; made = h.made })
  where
    at : (fs : List HandedFetch) (rows : List (List Call)) (state : State) (o : Option Call)
        → slice_get (calls_in rows) state.place ≡ o → called_at o ≡ Ends
        → ((call : Call) → HasUnanswered (at_program (Called rows fs) state) call → HasWidth call)
        → HasUnanswered (at_program (Called rows fs) state) other → ⊥
    at fs rows state (Some call) there ends wide h =
        not_ended (has_width call) call
        (has_width_test call
        (wide call (record { place = state.place; from = omega arith; made = there }))) ends
    at fs rows state None there ends wide h =
        let within = slice_get_within (calls_in rows) h.place other h.made in
        let low = h.from in
        elim (cases_lt state.place (length (calls_in rows))) [
          | inl less ↦
              none-some (get_or (calls_in rows) state.place other)
              (sym there ∙ slice_get-get_or (calls_in rows) state.place other less)
          | inr past ↦ absurd (omega (arith, within, low, past))
        ]

    by : (program : Program) (state : State) → step_of (at_program program state) ≡ Ends
        → ((call : Call) → HasUnanswered (at_program program state) call → HasWidth call)
        → HasUnanswered (at_program program state) other → ⊥
    by (Written is) state ends wide h =
        none-some other (sym (slice_get_past List.[] h.place (omega arith)) ∙ h.made)
    by (Called rows fs) state ends wide h =
        at fs rows state (slice_get (calls_in rows) state.place) refl ends wide h

-- a call that own code asks for has no reply yet
pub asks_unanswered : (p : Process) (call : Call) → IsCalled p.program → step_of p ≡ Asks call
    → HasUnanswered p call
asks_unanswered p call called asks =
    let h = by p.program p.state called asks in
    record { place = h.place; from = h.from; made = h.made }
  where
    same : (b : Bool) (c : Call) → (if b then Asks c else Ends) ≡ Asks call → c ≡ call
    same true c is = cc
    same false c is = absurd cc

    at : (fs : List HandedFetch) (rows : List (List Call)) (state : State) (o : Option Call)
        → slice_get (calls_in rows) state.place ≡ o → called_at o ≡ Asks call
        → HasUnanswered (at_program (Called rows fs) state) call
    at fs rows state None there is = absurd cc
    at fs rows state (Some c) there is = record {
      place = state.place;
      from = omega arith;
      made = there ∙ ap Some (same (has_width c) c is);
    }

    by : (program : Program) (state : State) → IsCalled program
        → step_of (at_program program state) ≡ Asks call → HasUnanswered (at_program program state) call
    by (Written instructions) state called asks = absurd called
    by (Called rows fs) state called asks =
        at fs rows state (slice_get (calls_in rows) state.place) refl asks
