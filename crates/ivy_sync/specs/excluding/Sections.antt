-- Critical sections: what is guarded by a lock is done in one whole section after another.
use Rattle.std.specs.Prelude.{◌≡◌, ℕ, ◌<◌, Bool, false, ◌==◌, if◌then◌else◌, IsTrue}
use Rattle.std.specs.Prelude.{List, [], ◌∷◌, map}
use Rattle.std.specs.List.{filter, flat_map}
use Rattle.ivy_model.specs.declared.config.Config.{Config}
use Rattle.ivy_model.specs.declared.call.Call.{Call}
use Rattle.ivy_model.specs.declared.call.Record.{Record}
use Rattle.ivy_model.specs.stated.Memory.{Memory}
use Rattle.ivy_calls.specs.declared.answer.Answer.{Answer}
use Rattle.ivy_calls.specs.Answers.{answers, answers_of}
use Rattle.ivy_sync.specs.HeapWords.{word, IsHeapWord, is_write_in, LeadsThrough}
use Rattle.ivy_sync.specs.excluding.Locks.{held_after, KeepsLock}

-- in these answers of a node it makes each guarded call while it holds the lock at a
abbrev pub KeepsGuard : ℕ → (Call → Bool) → Bool → List Answer → Type 0
KeepsGuard a guarded held [] = Unit {0}
KeepsGuard a guarded held (r ∷ rs) =
    (IsTrue (guarded r.call) → IsTrue held) × KeepsGuard a guarded (held_after a held r) rs

-- the lists with an item more in front of the first
abbrev pub onto_first : Answer → List (List Answer) → List (List Answer)
onto_first r [] = (r ∷ []) ∷ []
onto_first r (s ∷ ss) = (r ∷ s) ∷ ss

-- the critical sections of a node: of each the guarded calls. The last may be unfinished
abbrev pub sections : ℕ → (Call → Bool) → Bool → List Answer → List (List Answer)
sections a guarded held [] = if held then [] ∷ [] else []
sections a guarded held (r ∷ rs) =
    let later = held_after a held r in
    let rest = sections a guarded later rs in
    if held then (if later then (if guarded r.call then onto_first r rest else rest) else [] ∷ rest)
    else rest

-- the sections that are node i's
abbrev pub turns_of : ℕ → List (ℕ × List Answer) → List (List Answer)
turns_of i turns = map (λ t. t.1) (filter (λ t. t.0 == i) turns)

-- the guarded calls of the order are those of these sections, one section after another, and each
-- node's sections are among them in its own order
pub record IsSerial (a : ℕ) (guarded : Call → Bool) (order : List Record)
    (turns : List (ℕ × List Answer)) : Type 0 where
  pub whole : filter (λ r. guarded r.call) (answers order) ≡ flat_map (λ t. t.1) turns
  pub each : (i : ℕ) → turns_of i turns ≡ sections a guarded false (answers_of i order)

-- In every order of records that a flat memory makes, what is guarded by a lock is done in one
-- whole critical section after another.
abbrev pub SectionsAreSerial : Type 0
SectionsAreSerial = (c : Config) (old new : Memory) (order : List Record) (a : ℕ)
    (guarded : Call → Bool) → LeadsThrough c old order new → IsHeapWord c a → word c old a ≡ 0
    → ((call : Call) → IsTrue (is_write_in a call) → guarded call ≡ false)
    → ((i : ℕ) → i < c.nodes → KeepsLock a false (answers_of i order))
    → ((i : ℕ) → i < c.nodes → KeepsGuard a guarded false (answers_of i order))
    → (turns : List (ℕ × List Answer)) × IsSerial a guarded order turns
