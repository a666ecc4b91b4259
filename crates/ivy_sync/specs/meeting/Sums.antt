-- Numbers that are added to a sum under a lock.
use Rattle.std.specs.Prelude.{◌≡◌, ℕ, zero, suc, ◌+◌, ◌/◌, ◌^◌, ◌<◌, List, [], ◌∷◌, ◌++◌}
use Rattle.std.specs.Prelude.{slice_get, Some}
use Rattle.std.specs.List.{AllByRecursion as Each}
use Rattle.ivy_model.specs.declared.config.Config.{Config}
use Rattle.ivy_model.specs.declared.call.Record.{Record}
use Rattle.ivy_model.specs.stated.Memory.{Memory}
use Rattle.ivy_calls.specs.declared.answer.Answer.{Answer}
use Rattle.ivy_calls.specs.Answers.{answers_of}
use Rattle.ivy_sync.specs.Doing.{AsksInVain, arrives, asks, loads, passes, stores}
use Rattle.ivy_sync.specs.HeapWords.{word, IsHeapWord, LeadsThrough}

-- the sum of f over the numbers below n
abbrev pub sum_up_to : (ℕ → ℕ) → ℕ → ℕ
sum_up_to f zero = 0
sum_up_to f (suc n) = sum_up_to f n + f n

-- under the lock at a the number was added to the sum at s
abbrev pub adding : ℕ → ℕ → ℕ → ℕ → List Answer
adding a s sum value = asks a 0 ∷ loads s sum ∷ stores s (sum + value) ∷ stores a 0 ∷ []

-- the history of a node that added its number once, and read the sum after a barrier
pub record AddsOnce (a s k least value : ℕ) (history : List Answer) (out : ℕ) : Type 0 where
  pub refusals : List Answer
  pub each : Each (AsksInVain a) refusals
  pub sum : ℕ
  pub fits : sum + value < 2 ^ 64
  pub found : ℕ
  pub whole : history
      ≡ ((refusals ++ adding a s sum value) ++ arrives k ∷ [])
      ++ (passes k least found ∷ loads s out ∷ [])

-- In every order of records that a flat memory makes, where each node adds its number to a sum
-- under a lock and then meets the others, all read the sum of all numbers and of what was there.
abbrev pub SumsAreWhole : Type 0
SumsAreWhole = (c : Config) (old new : Memory) (order : List Record) (a s k count : ℕ)
    (value out : ℕ → ℕ) → LeadsThrough c old order new → IsHeapWord c a → IsHeapWord c s → (s / 8
    ≡ a / 8 → ⊥)
    → word c old a ≡ 0 → slice_get old.counts k ≡ Some count
    → ((i : ℕ) → i < c.nodes
    → AddsOnce a s k (count + c.nodes) (value i) (answers_of i order) (out i))
    → (i : ℕ) → i < c.nodes
    → out i ≡ word c old s + sum_up_to value c.nodes
