-- The memory that a program is tested on.
use Rattle.std.specs.Prelude.{◌≡◌, ℕ, ◌<◌, ◌⊎◌, List, map, refl, slice_get, Some}
use Rattle.std.specs.Coded.{Coded, code_by, coded×, coded_list}
use Rattle.ivy_model.specs.declared.call.CallKind.{CallKind}
use Rattle.ivy_model.specs.declared.call.CallKind.TheVariants.{Await}
use Rattle.ivy_model.specs.declared.fault.Fault.{Fault}
use Rattle.ivy_model.specs.declared.fault.Fault.TheVariants as reason
use Rattle.ivy_model.specs.Flat.{FlatState, flat_state_code}
use Rattle.ivy_model.specs.stated.Legal.{ServesAll}
use Rattle.ivy_model.specs.stated.Memory.{Memory, first}
use Rattle.ivy_calls.specs.declared.answer.Answer.{Answer}
use Rattle.ivy_calls.specs.contracts.answer.Answer.{the_row}
use Rattle.ivy_calls.specs.Answers.{by}

-- a flat memory, and what it answered
pub record AloneState : Type 0 where
  pub flat : FlatState
  pub answers : List Answer

-- a state is stored as the pair of its fields
abbrev pub alone_state_code : Coded AloneState
alone_state_code = code_by (FlatState × List Answer) (coded× flat_state_code
    (coded_list the_row.coded))
    (λ s. (s.flat, s.answers)) (λ p. record { flat = p.0; answers = p.1 }) (λ _. refl)

-- as the records of any one node, the answers are those of the flat memory from its first state on
abbrev pub AreFlat : FlatState → List Answer → Type 0
AreFlat flat answers = (me : ℕ) → me < flat.config.nodes
    → ServesAll flat.config (first flat.config) (map (by me) answers) flat.memory

-- the call is an await of more than the count, which nobody else can end
abbrev pub IsEndless : Memory → CallKind → Type 0
IsEndless m (Await k least) = (count : ℕ) × (slice_get m.counts k ≡ Some count) × (count < least)
IsEndless m _ = ⊥

-- memory ran out, or the call is an await that nobody else can end
abbrev pub IsLack : Fault → Type 0
IsLack fault = (fault ≡ reason.Memory) ⊎ (fault ≡ reason.TurnLimit)
