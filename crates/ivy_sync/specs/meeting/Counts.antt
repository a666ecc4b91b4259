-- What the laws say of advances.
use Rattle.std.specs.Prelude.{◌≡◌, ℕ, ◌+◌, Bool, false, ◌==◌, if◌then◌else◌, List, [], ◌∷◌}
use Rattle.std.specs.List.{AllByRecursion as Each}
use Rattle.ivy_model.specs.declared.call.Call.{Call}
use Rattle.ivy_model.specs.declared.call.CallKind.{CallKind}
use Rattle.ivy_model.specs.declared.call.CallKind.TheVariants.{Advance}
use Rattle.ivy_model.specs.declared.call.Reply.{Reply}
use Rattle.ivy_model.specs.declared.call.Reply.TheVariants.{Done}
use Rattle.ivy_model.specs.stated.Accesses.{kind_of_call}
use Rattle.ivy_calls.specs.declared.answer.Answer.{Answer}

-- the call advances eventcount k
abbrev pub is_advance_of_kind : ℕ → CallKind → Bool
is_advance_of_kind k (Advance j) = j == k
is_advance_of_kind k _ = false

abbrev pub is_advance_of : ℕ → Call → Bool
is_advance_of k call = is_advance_of_kind k (kind_of_call call)

-- no answer is of an advance of eventcount k
abbrev pub NoAdvance : ℕ → List Answer → Type 0
NoAdvance k rs = Each (λ r. is_advance_of k r.call ≡ false) rs

-- how much the call, so answered, adds to eventcount k
abbrev pub raised_kind : ℕ → CallKind → Reply → ℕ
raised_kind k (Advance j) Done = if j == k then 1 else 0
raised_kind k _ _ = 0

abbrev pub raised : ℕ → Answer → ℕ
raised k r = raised_kind k (kind_of_call r.call) r.reply

-- how often eventcount k was advanced
abbrev pub times_advanced : ℕ → List Answer → ℕ
times_advanced k [] = 0
times_advanced k (r ∷ rs) = raised k r + times_advanced k rs
