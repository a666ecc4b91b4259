-- A lock of any kind, by what its nodes know: a state that each answer leads on, and which says whether
-- the node is inside.
use Rattle.std.specs.Prelude.{◌≡◌, ℕ, Bool, if◌then◌else◌, IsTrue, List, [], ◌∷◌}
use Rattle.std.specs.List.{filter, flat_map}
use Rattle.ivy_model.specs.declared.call.Call.{Call}
use Rattle.ivy_model.specs.declared.call.Record.{Record}
use Rattle.ivy_calls.specs.declared.answer.Answer.{Answer}
use Rattle.ivy_calls.specs.Answers.{answers, answers_of}
use Rattle.ivy_sync.specs.excluding.Sections.{onto_first, turns_of}

-- what a lock's rules say of a node: what it knows at first, what it knows after an answer, and whether
-- it is inside then
pub record Rule (S : Type 0) : Type 0 where
  pub first : S
  pub after : S → Answer → S
  pub inside : S → Bool

-- what it knows after these answers, from a state on
abbrev pub state : {S : Type 0} → Rule S → S → List Answer → S
state rule s [] = s
state rule s (r ∷ rs) = state rule (rule.after s r) rs

-- whether it is inside after these answers
abbrev pub is_inside : {S : Type 0} → Rule S → List Answer → Bool
is_inside rule rs = rule.inside (state rule rule.first rs)

-- in these answers of a node it makes each guarded call while it is inside
abbrev pub GuardsInside : {S : Type 0} → Rule S → (Call → Bool) → S → List Answer → Type 0
GuardsInside rule guarded s [] = Unit {0}
GuardsInside rule guarded s (r ∷ rs) =
    (IsTrue (guarded r.call) → IsTrue (rule.inside s))
    × GuardsInside rule guarded (rule.after s r) rs

-- the critical sections of a node: of each the guarded calls. The last may be unfinished
abbrev pub stays : {S : Type 0} → Rule S → (Call → Bool) → S → List Answer → List (List Answer)
stays rule guarded s [] = if rule.inside s then [] ∷ [] else []
stays rule guarded s (r ∷ rs) =
    let later = rule.after s r in
    let rest = stays rule guarded later rs in
    if rule.inside s
    then (if rule.inside later then (if guarded r.call then onto_first r rest else rest)
    else [] ∷ rest)
    else rest

-- the guarded calls of the order are those of these sections, one section after another, and each
-- node's sections are among them in its own order
pub record AreTurnsOf {S : Type 0} (rule : Rule S) (guarded : Call → Bool) (order : List Record)
    (turns : List (ℕ × List Answer)) : Type 0 where
  pub whole : filter (λ r. guarded r.call) (answers order) ≡ flat_map (λ t. t.1) turns
  pub each : (i : ℕ) → turns_of i turns ≡ stays rule guarded rule.first (answers_of i order)
