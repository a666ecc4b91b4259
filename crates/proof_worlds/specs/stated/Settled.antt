-- What is promised of nodes that stand still: they do so only where one flat memory would make them
-- wait (an await of a count, Reed and Kanodia 1979).
use Rattle.std.specs.Prelude.{◌≡◌, ◌<◌, ℕ, List, [], ◌∷◌, slice_get, Some}
use Rattle.ivy_model.specs.declared.Config.{Config}
use Rattle.ivy_model.specs.declared.Call.{Call}
use Rattle.ivy_model.specs.declared.Call.TheVariants.{Await}
use Rattle.ivy_model.specs.declared.Record.{Record}
use Rattle.ivy_model.specs.stated.Memory.{Memory, first}
use Rattle.ivy_model.specs.stated.Legal.{ServesAll}
use Rattle.ivy_model.specs.stated.Explains.{part, Answered}

-- a count is awaited that is below the least value
abbrev pub IsAwaitBelow : Memory → Call → Type 0
IsAwaitBelow m (Await k least) =
    (count : ℕ) × (slice_get m.counts k ≡ Some count) × (count < least)
IsAwaitBelow m _ = ⊥

-- the flat memory has no answer to these calls in progress: there is none, or a count is awaited
-- that is below the least value, and no call was made along with that one
abbrev pub HasNoAnswer : Memory → List Call → Type 0
HasNoAnswer m [] = Unit {0}
HasNoAnswer m (called ∷ []) = IsAwaitBelow m called
HasNoAnswer m (called ∷ next ∷ calls) = ⊥

-- Some legal order has exactly each node's history as its part, and in its last memory none of the
-- nodes could be answered.
pub record AreSettled (c : Config) (nodes : List Answered) : Type 0 where
  pub order : List Record
  pub last : Memory
  pub legal : ServesAll c (first c) order last
  pub parts : (i : ℕ) (n : Answered) → slice_get nodes i ≡ Some n → part i order ≡ n.history
  pub waits : (i : ℕ) (n : Answered) → slice_get nodes i ≡ Some n → HasNoAnswer last n.asked
