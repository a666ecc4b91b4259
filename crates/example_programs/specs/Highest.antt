-- Nodes that bid by a reduction, and name the highest bid.
use Rattle.std.specs.Prelude.{◌≡◌, ℕ, zero, suc, ◌+◌, ◌*◌, ◌%◌, ◌^◌, ◌<◌, max, List, [], slice_index}
use Rattle.std.specs.Prelude.{slice_get, Some}
use Rattle.ivy_model.specs.declared.config.Config.{Config}
use Rattle.ivy_model.specs.declared.call.Record.{Record}
use Rattle.ivy_model.specs.stated.Config.{count_len}
use Rattle.ivy_calls.specs.declared.answer.Answer.{Answer}
use Rattle.ivy_calls.specs.Shared.{AreShared}
use Rattle.ivy_sync.specs.HeapWords.{IsHeapWord}
use Rattle.ivy_sync.specs.meeting.Folds.{Folds}
use Rattle.example_programs.specs.declared.highest.Highest.{Highest}

-- a node gave its bid, and named the highest of those it found
abbrev pub HasBid : Highest → ℕ → List Answer → ℕ → Type 0
HasBid work me answers out =
    Folds (λ most bid next. next ≡ max most bid) work.reduction me (slice_index work.bids me) 0 out []
    answers

-- the highest of the bids of the nodes below n
abbrev pub highest_below : (ℕ → ℕ) → ℕ → ℕ
highest_below bid zero = 0
highest_below bid (suc n) = max (highest_below bid n) (bid n)

-- the bids, of 64 bits, have words of the heap, and all nodes meet at an eventcount
pub record IsBidPlace (c : Config) (work : Highest) : Type 0 where
  pub words : (n : ℕ) → n < c.nodes → IsHeapWord c (work.reduction.addr + 8 * n)
  pub aligned : work.reduction.addr % 8 ≡ 0
  pub fits : (n : ℕ) → slice_index work.bids n < 2 ^ 64
  pub count : work.reduction.barrier.count < count_len c
  pub nodes : work.reduction.barrier.nodes ≡ c.nodes
  pub first : work.reduction.barrier.passed ≡ 0

-- All nodes name the highest bid.
abbrev pub AllNameTheHighest : Type 0
AllNameTheHighest = (c : Config) (work : Highest) (order : List Record) (outs : List ℕ)
    → IsBidPlace c work → AreShared c (HasBid work) order outs
    → (i out : ℕ) → slice_get outs i ≡ Some out
    → out ≡ highest_below (λ n. slice_index work.bids n) c.nodes
