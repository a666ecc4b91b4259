-- A lock for many readers or one writer, by swaps and stores of one word.
use Rattle.std.specs.Prelude.{◌≡◌, ◌≢◌, ℕ, ◌+◌, ◌-◌, ◌^◌, List, [], ◌∷◌, ◌++◌}
use Rattle.ivy_model.specs.declared.call.Call.TheVariants.{Swap}
use Rattle.ivy_model.specs.declared.call.Reply.TheVariants.{Value}
use Rattle.ivy_calls.specs.declared.answer.Answer.{Answer}
use Rattle.ivy_sync.specs.Doing.{stores}
use Rattle.example_programs.specs.Adding.{TriesUntil}

-- what stands in the word while a node has taken it
abbrev pub taken : ℕ
taken = 2 ^ 64 - 1

-- a node asked for the word, and this was there
abbrev pub asks_for : ℕ → ℕ → Answer
asks_for a found = record { call = Swap 8 a taken; reply = Value found }

-- another node had it
abbrev pub IsRefused : ℕ → List Answer → Type 0
IsRefused a try = try ≡ asks_for a taken ∷ []

-- the node got it, and found so many readers inside
abbrev pub IsGiven : ℕ → ℕ → List Answer → Type 0
IsGiven a readers try = (readers ≢ taken) × (try ≡ asks_for a readers ∷ [])

-- the node asked until it got it
abbrev pub Takes : ℕ → ℕ → List Answer → Type 0
Takes a readers = TriesUntil (IsRefused a) (IsGiven a readers)

-- the node took the word, and left as many readers there as it makes of those it found
pub record Counts (a : ℕ) (made : ℕ → ℕ) (added : List Answer) : Type 0 where
  pub readers : ℕ
  pub got : List Answer
  pub takes : Takes a readers got
  pub whole : added ≡ got ++ stores a (made readers) ∷ []

-- one reader more, and one less
abbrev pub CountsIn : ℕ → List Answer → Type 0
CountsIn a = Counts a (λ readers. readers + 1)

abbrev pub CountsOut : ℕ → List Answer → Type 0
CountsOut a = Counts a (λ readers. readers - 1)

-- the node took the word, and left it as it was, until it found no reader inside
abbrev pub EntersToWrite : ℕ → List Answer → Type 0
EntersToWrite a = TriesUntil (Counts a (λ readers. readers)) (Takes a 0)
