-- A barrier of all nodes by an eventcount: each advances it, and awaits that all have.
use Rattle.std.specs.Prelude.{◌≡◌, ℕ, ◌+◌, ◌<◌, List, [], ◌∷◌, ◌++◌, slice_get, Some}
use Rattle.ivy_model.specs.declared.config.Config.{Config}
use Rattle.ivy_model.specs.declared.call.Record.{Record}
use Rattle.ivy_model.specs.stated.Memory.{Memory}
use Rattle.ivy_model.specs.stated.Legal.{ServesAll}
use Rattle.ivy_calls.specs.declared.answer.Answer.{Answer}
use Rattle.ivy_calls.specs.Answers.{answers_of}
use Rattle.ivy_sync.specs.declared.barrier.Barrier.{Barrier}
use Rattle.ivy_sync.specs.meeting.Counts.{NoAdvance}
use Rattle.ivy_sync.specs.Doing.{arrives, passes}

-- what the next phase of a barrier waits for
abbrev pub least_of : Barrier → ℕ
least_of b = b.passed + b.nodes

-- the barrier after that phase
abbrev pub passed_on : Barrier → Barrier
passed_on b = record b { passed = least_of b }

-- the barrier stands in a node's history: what was before it, in which k is not advanced, and after
pub record CrossesAt (k least : ℕ) (before after history : List Answer) : Type 0 where
  pub found : ℕ
  pub whole : history ≡ (before ++ arrives k ∷ []) ++ (passes k least found ∷ after)
  pub alone : NoAdvance k before

-- the order is cut in two: what each node did up to its own advance, and what it did from its
-- await on
pub record IsCutAt (c : Config) (old : Memory) (order : List Record) (new : Memory) (k least : ℕ)
    (before after : (i : ℕ) → i < c.nodes → List Answer) : Type 0 where
  pub first : List Record
  pub rest : List Record
  pub mid : Memory
  pub whole : order ≡ first ++ rest
  pub leads : ServesAll c old first mid
  pub leads_on : ServesAll c mid rest new
  pub counted : slice_get mid.counts k ≡ Some least
  pub firsts : (i : ℕ) (l : i < c.nodes) → answers_of i first ≡ before i l ++ arrives k ∷ []
  pub rests : (i : ℕ) (l : i < c.nodes)
      → (found : ℕ) × (answers_of i rest ≡ passes k least found ∷ after i l)

-- In every order of records that a flat memory makes, all that nodes did before a barrier stands
-- before all that they did after it.
abbrev pub BarrierSeparates : Type 0
BarrierSeparates = (c : Config) (old new : Memory) (order : List Record) (k count : ℕ)
    (before after : (i : ℕ) → i < c.nodes → List Answer) → ServesAll c old order new
    → slice_get old.counts k ≡ Some count
    → ((i : ℕ) (l : i < c.nodes)
    → CrossesAt k (count + c.nodes) (before i l) (after i l) (answers_of i order))
    → IsCutAt c old order new k (count + c.nodes) before after
