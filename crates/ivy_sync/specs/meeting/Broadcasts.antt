-- A broadcast: one node stores a number, and after a barrier all find it.
use Rattle.std.specs.Prelude.{◌≡◌, ◌≢◌, ℕ, ◌+◌, ◌^◌, ◌<◌, List, [], ◌∷◌, ◌++◌, slice_get, Some}
use Rattle.ivy_model.specs.declared.config.Config.{Config}
use Rattle.ivy_model.specs.declared.call.Record.{Record}
use Rattle.ivy_model.specs.stated.Memory.{Memory}
use Rattle.ivy_calls.specs.declared.answer.Answer.{Answer}
use Rattle.ivy_calls.specs.Answers.{answers_of}
use Rattle.ivy_sync.specs.declared.broadcast.Broadcast.{Broadcast}
use Rattle.ivy_sync.specs.meeting.Barriers.{least_of}
use Rattle.ivy_sync.specs.meeting.Counts.{NoAdvance}
use Rattle.ivy_sync.specs.Doing.{Crosses, arrives, passes, loads, stores}
use Rattle.ivy_sync.specs.HeapWords.{IsHeapWord, NoWrite, LeadsThrough}

-- the number was stored, and the others waited for
abbrev pub Gives : Broadcast → ℕ → List Answer → List Answer → Type 0
Gives b value old new = Crosses b.barrier.count (least_of b.barrier) (old ++ stores b.addr value
    ∷ []) new

-- the others were waited for, and the number found
pub record Gets (b : Broadcast) (value : ℕ) (old new : List Answer) : Type 0 where
  pub mid : List Answer
  pub crosses : Crosses b.barrier.count (least_of b.barrier) old mid
  pub whole : new ≡ mid ++ loads b.addr value ∷ []

-- a history of who gave the number by this word and eventcount: what was before it, and after it
pub record GivesOnce (addr k least value : ℕ) (history : List Answer) : Type 0 where
  pub before : List Answer
  pub after : List Answer
  pub found : ℕ
  pub whole : history
      ≡ ((before ++ stores addr value ∷ []) ++ arrives k ∷ []) ++ (passes k least found ∷ after)
  pub fits : value < 2 ^ 64
  pub alone : NoAdvance k before
  pub unwritten : NoWrite addr before
  pub left : NoWrite addr after

-- and of who got it
pub record GetsOnce (addr k least value : ℕ) (history : List Answer) : Type 0 where
  pub before : List Answer
  pub after : List Answer
  pub found : ℕ
  pub whole : history ≡ (before ++ arrives k ∷ []) ++ (passes k least found ∷ loads addr value
      ∷ after)
  pub alone : NoAdvance k before
  pub unwritten : NoWrite addr before
  pub left : NoWrite addr after

-- In every order of records that a flat memory makes, each node gets what the one node gave.
abbrev pub BroadcastsArrive : Type 0
BroadcastsArrive = (c : Config) (old new : Memory) (order : List Record) (addr k count i given : ℕ)
    (got : ℕ → ℕ) → LeadsThrough c old order new → slice_get old.counts k ≡ Some count
    → IsHeapWord c addr
    → i < c.nodes → GivesOnce addr k (count + c.nodes) given (answers_of i order)
    → ((j : ℕ) → j < c.nodes → j ≢ i
    → GetsOnce addr k (count + c.nodes) (got j) (answers_of j order))
    → (j : ℕ) → j < c.nodes → j ≢ i
    → got j ≡ given
