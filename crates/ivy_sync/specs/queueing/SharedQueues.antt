-- A queue of several senders, which send under a lock, and one receiver.
use Rattle.std.specs.Prelude.{◌≡◌, ◌≢◌, ℕ, ◌+◌, ◌/◌, ◌^◌, ◌<◌, Bool, false, ◌==◌, nat_lt}
use Rattle.std.specs.Prelude.{◌⊎◌, List, [], ◌∷◌, ◌++◌, map, if◌then◌else◌}
use Rattle.std.specs.List.{AllByRecursion as Each, filter}
use Rattle.ivy_model.specs.declared.config.Config.{Config}
use Rattle.ivy_model.specs.declared.call.Call.{Call}
use Rattle.ivy_model.specs.declared.call.Call.TheVariants.{Count, Store}
use Rattle.ivy_model.specs.declared.call.CallKind.{CallKind}
use Rattle.ivy_model.specs.declared.call.CallKind.TheVariants as kind
use Rattle.ivy_model.specs.declared.call.Record.{Record}
use Rattle.ivy_model.specs.declared.call.Reply.TheVariants.{Value}
use Rattle.ivy_model.specs.declared.fault.Fault.{Fault}
use Rattle.ivy_model.specs.stated.Accesses.{kind_of_call}
use Rattle.ivy_model.specs.stated.Memory.{Memory}
use Rattle.ivy_calls.specs.declared.answer.Answer.{Answer}
use Rattle.ivy_calls.specs.Answers.{answers_of}
use Rattle.ivy_calls.specs.Fails.{Fails}
use Rattle.ivy_sync.specs.declared.error.SyncError.{SyncError}
use Rattle.ivy_sync.specs.declared.error.SyncError.TheVariants as error
use Rattle.ivy_sync.specs.declared.queue.Queue.{Queue}
use Rattle.ivy_sync.specs.meeting.Counts.{NoAdvance}
use Rattle.ivy_sync.specs.Doing.{AsksInVain, Locks, asks, stores}
use Rattle.ivy_sync.specs.Failing.{FailsToLock, FailsToSend}
use Rattle.ivy_sync.specs.queueing.Queues.{sends_value, AddsSend, TakesAll, IsEmptyQueue}
use Rattle.ivy_sync.specs.HeapWords.{word, IsHeapWord, puts, NoWrite, LeadsThrough}

-- eventcount k was found to be this
abbrev pub counts : ℕ → ℕ → Answer
counts k found = record { call = Count k; reply = Value found }

-- what is done under the lock: so many were sent before, there was room, and the value was sent
abbrev pub sends_next : Queue → ℕ → ℕ → ℕ → List Answer
sends_next q n value found = counts q.sent n ∷ sends_value q n value found

-- the lock at a was got, the value sent as the n-th, and the lock left
abbrev pub shares : ℕ → Queue → List Answer → ℕ → ℕ → ℕ → List Answer → List Answer
shares a q refusals n value found rest =
    refusals ++ (asks a 0 ∷ (sends_next q n value found ++ stores a 0 ∷ rest))

pub record Shares (a : ℕ) (q : Queue) (value : ℕ) (old new : List Answer) : Type 0 where
  pub refusals : List Answer
  pub each : Each (AsksInVain a) refusals
  pub n : ℕ
  pub found : ℕ
  pub whole : new ≡ old ++ shares a q refusals n value found []

-- the lock was not got, or while it was held a call failed
abbrev pub FailsWhileHeld : (Fault → Type 0) → ℕ → Queue → ℕ → SyncError → List Answer
    → List Answer → Type 0
FailsWhileHeld can_fail a q value (error.Call e) old new =
    Fails can_fail (Count q.sent) e old new
    ⊎ (((n : ℕ) × FailsToSend can_fail q n value (error.Call e) (old ++ counts q.sent n ∷ []) new)
    ⊎ ((n : ℕ) × (sent : List Answer) × AddsSend q n value (old ++ counts q.sent n ∷ []) sent
    × Fails can_fail (Store 8 a 0) e sent new))
FailsWhileHeld can_fail a q value (error.Spent place) old new =
    (n : ℕ) × FailsToSend can_fail q n value (error.Spent place) (old ++ counts q.sent n ∷ []) new

abbrev pub FailsToShare : (Fault → Type 0) → ℕ → Queue → ℕ → SyncError → List Answer
    → List Answer → Type 0
FailsToShare can_fail a q value e old new =
    FailsToLock can_fail a e old new
    ⊎ ((held : List Answer) × Locks a old held × FailsWhileHeld can_fail a q value e held new)

-- the address lies in the words of the queue
abbrev pub is_in_queue : Queue → ℕ → Bool
is_in_queue q addr =
    if nat_lt (addr / 8) (q.at / 8) then false else nat_lt (addr / 8) (q.at / 8 + q.size)

-- the call is one of a sender: on how many were sent or taken, or a write in a word of the queue
abbrev pub is_sending_kind : Queue → CallKind → Bool
is_sending_kind q (kind.Word width addr does) = if puts does then is_in_queue q addr else false
is_sending_kind q (kind.Count k) = k == q.sent
is_sending_kind q (kind.Advance k) = k == q.sent
is_sending_kind q (kind.Await k least) = k == q.taken
is_sending_kind q _ = false

abbrev pub is_sending : Queue → Call → Bool
is_sending q call = is_sending_kind q (kind_of_call call)

-- these answers have none of a sender's calls, and leave the lock and what was taken alone
pub record LeavesShared (a : ℕ) (q : Queue) (rs : List Answer) : Type 0 where
  pub sending : Each (λ r. is_sending q r.call ≡ false) rs
  pub taken : NoAdvance q.taken rs
  pub lock : NoWrite a rs

-- the history begins with a value that is sent under the lock, and other things before it
pub record BeginsShared (a : ℕ) (q : Queue) (value : ℕ) (history : List Answer) : Type 0 where
  pub other : List Answer
  pub alone : LeavesShared a q other
  pub refusals : List Answer
  pub each : Each (AsksInVain a) refusals
  pub n : ℕ
  pub found : ℕ
  pub rest : List Answer
  pub fits : value < 2 ^ 64
  pub whole : history ≡ other ++ shares a q refusals n value found rest

-- these values are sent under the lock, with other things before, between and after
abbrev pub SharesAll : ℕ → Queue → List ℕ → List Answer → Type 0
SharesAll a q [] history = LeavesShared a q history
SharesAll a q (v ∷ vs) history =
    (first : BeginsShared a q v history) × SharesAll a q vs first.rest

-- of what was sent by some nodes, with their numbers, the values that node i sent
abbrev pub sent_by : ℕ → List (ℕ × ℕ) → List ℕ
sent_by i all = map (λ s. s.1) (filter (λ s. s.0 == i) all)

-- what was taken is a beginning of what was sent, by nodes other than the taker, and each node's
-- values are in it in its own order
pub record IsMerged (c : Config) (j : ℕ) (sent : ℕ → List ℕ) (taken : List ℕ) : Type 0 where
  pub all : List (ℕ × ℕ)
  pub rest : List ℕ
  pub whole : map (λ s. s.1) all ≡ taken ++ rest
  pub senders : Each (λ s. (s.0 < c.nodes) × (s.0 ≢ j)) all
  pub each : (i : ℕ) → i < c.nodes → i ≢ j → sent_by i all ≡ sent i

-- In every order of records that a flat memory makes, what one node takes from a queue into which
-- all others send under a lock is what they sent, one value after another, in the order of each.
abbrev pub SharedQueuesKeepOrder : Type 0
SharedQueuesKeepOrder = (c : Config) (old new : Memory) (order : List Record) (a : ℕ) (q : Queue)
    (j : ℕ) (sent : ℕ → List ℕ) (taken : List ℕ) → LeadsThrough c old order new
    → IsEmptyQueue c old q → IsHeapWord c a → word c old a ≡ 0
    → is_in_queue q a ≡ false → j < c.nodes
    → TakesAll q 0 taken (answers_of j order)
    → Each (λ r. is_sending q r.call ≡ false) (answers_of j order)
    → NoWrite a (answers_of j order)
    → ((i : ℕ) → i < c.nodes → i ≢ j → SharesAll a q (sent i) (answers_of i order))
    → IsMerged c j sent taken
