-- Nodes that add their numbers to a sum under a lock, meet, and read the sum.
use Rattle.std.specs.Prelude.{◌≡◌, ◌≢◌, ℕ, ◌-◌, ◌*◌, ◌/◌, ◌<◌, List, All}
use Rattle.ivy_model.specs.declared.config.Config.{Config}
use Rattle.ivy_model.specs.declared.call.Record.{Record}
use Rattle.ivy_model.specs.stated.Config.{count_len}
use Rattle.ivy_calls.specs.declared.answer.Answer.{Answer}
use Rattle.ivy_calls.specs.Shared.{AreShared}
use Rattle.ivy_sync.specs.meeting.Barriers.{least_of}
use Rattle.ivy_sync.specs.meeting.Sums.{AddsOnce}
use Rattle.ivy_sync.specs.HeapWords.{IsHeapWord}
use Rattle.example_programs.specs.declared.adds_up.AddsUp.{AddsUp}

-- a node by its number has added it once, and read the sum after the barrier
abbrev pub HasAdded : AddsUp → ℕ → List Answer → ℕ → Type 0
HasAdded work me answers out =
    AddsOnce work.lock.addr work.sum work.barrier.count (least_of work.barrier) me answers out

-- the lock and the sum are different words of the heap, and all nodes meet at an eventcount
pub record IsSumPlace (c : Config) (work : AddsUp) : Type 0 where
  pub lock : IsHeapWord c work.lock.addr
  pub sum : IsHeapWord c work.sum
  pub apart : work.sum / 8 ≢ work.lock.addr / 8
  pub count : work.barrier.count < count_len c
  pub nodes : work.barrier.nodes ≡ c.nodes
  pub first : work.barrier.passed ≡ 0

-- All nodes read the sum of their numbers, N(N-1)/2.
abbrev pub AllReadTheSum : Type 0
AllReadTheSum = (c : Config) (work : AddsUp) (order : List Record) (outs : List ℕ)
    → IsSumPlace c work → AreShared c (HasAdded work) order outs
    → All (λ out. 2 * out ≡ c.nodes * (c.nodes - 1)) outs
