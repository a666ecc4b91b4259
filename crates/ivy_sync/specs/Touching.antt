-- Pages that a node takes by adding 0 to a word of each.
use Rattle.std.specs.Prelude.{◌≡◌, ℕ, ◌+◌, ◌*◌, ◌^◌, ◌<◌, List, [], ◌∷◌, ◌++◌, length}
use Rattle.ivy_model.specs.declared.call.Call.TheVariants.{FetchAdd}
use Rattle.ivy_model.specs.declared.call.Reply.TheVariants.{Value}
use Rattle.ivy_model.specs.declared.fault.Fault.{Fault}
use Rattle.ivy_calls.specs.declared.answer.Answer.{Answer}
use Rattle.ivy_calls.specs.declared.error.CallError.{CallError}
use Rattle.ivy_calls.specs.Fails.{Fails}
use Rattle.ivy_sync.specs.HeapWords.{last}

-- 0 was added to the word at an address, where this stood
abbrev pub touches : ℕ → ℕ → Answer
touches addr found = record { call = FetchAdd 8 addr 0; reply = Value found }

-- to the words from the n-th on, so many bytes apart, where these stood
abbrev pub touched : ℕ → ℕ → ℕ → List ℕ → List Answer
touched addr apart n [] = []
touched addr apart n (v ∷ vs) = touches (addr + apart * n) v ∷ touched addr apart (n + 1) vs

-- so many were touched
pub record HasTouched (addr apart times : ℕ) (old new : List Answer) : Type 0 where
  pub found : List ℕ
  pub long : length found ≡ times
  pub whole : new ≡ old ++ touched addr apart 0 found

-- the next one of so many was not
pub record FailsToTouch (can_fail : Fault → Type 0) (addr apart pages : ℕ) (e : CallError)
    (old new : List Answer) : Type 0 where
  pub times : ℕ
  pub some : times < pages
  pub mid : List Answer
  pub has : HasTouched addr apart times old mid
  pub fails : Fails can_fail (FetchAdd 8 (addr + apart * times) 0) e mid new

-- Who touches changes nothing: each word holds what it held.
abbrev pub TouchesKeep : Type 0
TouchesKeep = (a v addr apart n : ℕ) (found : List ℕ) → v < 2 ^ 64
    → last a v (touched addr apart n found) ≡ v
