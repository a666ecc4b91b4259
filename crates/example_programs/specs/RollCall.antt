-- Nodes that send their numbers to node 0.
use Rattle.std.specs.Prelude.{◌≡◌, ◌≢◌, ℕ, ◌-◌, ◌<◌, false, List, [], ◌∷◌, length}
use Rattle.std.specs.Prelude.{count_by, nat_eq, slice_get, Some}
use Rattle.std.specs.List.{AllByRecursion as Each}
use Rattle.std.specs.Global.{Vec}
use Rattle.ivy_model.specs.declared.config.Config.{Config}
use Rattle.ivy_model.specs.declared.call.Record.{Record}
use Rattle.ivy_model.specs.stated.Memory.{first}
use Rattle.ivy_calls.specs.declared.answer.Answer.{Answer}
use Rattle.ivy_calls.specs.Shared.{AreShared}
use Rattle.ivy_sync.specs.queueing.Queues.{IsEmptyQueue, TakesAll}
use Rattle.ivy_sync.specs.queueing.SharedQueues.{Shares, is_in_queue, is_sending}
use Rattle.ivy_sync.specs.HeapWords.{IsHeapWord, NoWrite}
use Rattle.example_programs.specs.declared.roll_call.RollCall.{RollCall}

-- node 0 took so many numbers from the queue and did nothing else, and has them behind its own
pub record Calls (work : RollCall) (number : ℕ) (answers : List Answer) (out : List ℕ) : Type 0 where
  pub taken : List ℕ
  pub all : length taken ≡ number
  pub takes : TakesAll work.sender.queue 0 taken answers
  pub unsent : Each (λ r. is_sending work.sender.queue r.call ≡ false) answers
  pub unlocked : NoWrite work.sender.lock.addr answers
  pub whole : out ≡ 0 ∷ taken

-- node 0 took a number for each other node, and each of these sent its own
pub record HasCalled (work : RollCall) (me : ℕ) (answers : List Answer) (out : List ℕ) : Type 0 where
  pub calls : me ≡ 0 → Calls work (work.nodes - 1) answers out
  pub answered : me ≢ 0 → Shares work.sender.lock.addr work.sender.queue me [] answers

-- the queue is empty, and the lock is a word of the heap outside the queue
pub record IsCallingPlace (c : Config) (work : RollCall) : Type 0 where
  pub queue : IsEmptyQueue c (first c) work.sender.queue
  pub lock : IsHeapWord c work.sender.lock.addr
  pub apart : is_in_queue work.sender.queue work.sender.lock.addr ≡ false
  pub nodes : work.nodes ≡ c.nodes

-- Node 0 gives as many numbers as there are nodes, and each node's once.
abbrev pub AllAreCalled : Type 0
AllAreCalled = (c : Config) (work : RollCall) (order : List Record) (outs : List (Vec ℕ))
    (out : Vec ℕ) → IsCallingPlace c work
    → AreShared c (λ me answers o. HasCalled work me answers o.items) order outs
    → slice_get outs 0 ≡ Some out
    → (length out.items ≡ c.nodes)
    × ((i : ℕ) → i < c.nodes → count_by (nat_eq i) out.items ≡ 1)
