-- What a call of this library leaves that fails.
use Rattle.std.specs.Prelude.{◌≡◌, ℕ, ◌+◌, ◌-◌, ◌^◌, ◌≤◌, ◌≢◌, ◌⊎◌, List, [], ◌∷◌, ◌++◌, length}
use Rattle.std.specs.List.{AllByRecursion as Each}
use Rattle.ivy_model.specs.declared.call.Call.{Call}
use Rattle.ivy_model.specs.declared.call.Call.TheVariants.{Load, Store, Swap, Cas, FetchAdd}
use Rattle.ivy_model.specs.declared.call.Call.TheVariants.{Advance, Await, Alloc}
use Rattle.ivy_model.specs.declared.call.Reply.{Reply}
use Rattle.ivy_model.specs.declared.fault.Fault.{Fault}
use Rattle.ivy_model.specs.declared.fault.Fault.TheVariants.{CountFull}
use Rattle.ivy_calls.specs.declared.answer.Answer.{Answer}
use Rattle.ivy_calls.specs.declared.error.CallError.{CallError}
use Rattle.ivy_calls.specs.Fails.{Fails, fault_of}
use Rattle.ivy_sync.specs.declared.error.SyncError.{SyncError}
use Rattle.ivy_sync.specs.declared.error.SyncError.TheVariants as error
use Rattle.ivy_sync.specs.declared.broadcast.Broadcast.{Broadcast}
use Rattle.ivy_sync.specs.declared.queue.Queue.{Queue}
use Rattle.ivy_sync.specs.meeting.Barriers.{least_of, passed_on}
use Rattle.ivy_sync.specs.Doing.{AsksInVain, LooksInVain, Crosses, allots}
use Rattle.ivy_sync.specs.Doing.{claims_word, draws, stores}
use Rattle.ivy_sync.specs.queueing.Queues.{slot}

-- in some state of the memory a call may fail so
abbrev pub AtSome : {State : Type 0} → (State → Fault → Type 0) → Fault → Type 0
AtSome {State} can_fail fault = (state : State) × can_fail state fault

-- one of these calls fails, and those before it were answered
abbrev pub StopsIn : (Fault → Type 0) → List Call → SyncError → List Answer → List Answer → Type 0
StopsIn can_fail [] e old new = ⊥
StopsIn can_fail (call ∷ calls) (error.Call e) old new =
    Fails can_fail call e old new
    ⊎ ((reply : Reply)
    × StopsIn can_fail calls (error.Call e) (old ++ record { call = call; reply = reply } ∷ []) new)
StopsIn can_fail (call ∷ calls) (error.Spent place) old new = ⊥

-- the lock at a was asked for so often, each time in vain
pub record HasAsked (a times : ℕ) (old new : List Answer) : Type 0 where
  pub refusals : List Answer
  pub each : Each (AsksInVain a) refusals
  pub number : length refusals ≡ times
  pub whole : new ≡ old ++ refusals

-- the next try failed, or no more can be counted
abbrev pub FailsToLock : (Fault → Type 0) → ℕ → SyncError → List Answer → List Answer → Type 0
FailsToLock can_fail a (error.Call e) old new =
    (times : ℕ) × (tried : List Answer) × HasAsked a times old tried
    × Fails can_fail (Swap 8 a 1) e tried new
FailsToLock can_fail a (error.Spent place) old new =
    (place ≡ a) × HasAsked a (2 ^ 64 - 1) old new

-- the word at a was looked at so often, each time in vain
pub record HasLooked (a least times : ℕ) (old new : List Answer) : Type 0 where
  pub vain : List Answer
  pub each : Each (LooksInVain a least) vain
  pub number : length vain ≡ times
  pub whole : new ≡ old ++ vain

-- the next look failed, or no more can be counted
abbrev pub FailsToLook : (Fault → Type 0) → ℕ → ℕ → SyncError → List Answer → List Answer → Type 0
FailsToLook can_fail a least (error.Call e) old new =
    (times : ℕ) × (looked : List Answer) × HasLooked a least times old looked
    × Fails can_fail (Load 8 a) e looked new
FailsToLook can_fail a least (error.Spent place) old new =
    (place ≡ a) × HasLooked a least (2 ^ 64 - 1) old new

-- a barrier was not passed: the count can't be so great, or a call failed
abbrev pub FailsToCross : (Fault → Type 0) → ℕ → ℕ → SyncError → List Answer → List Answer → Type 0
FailsToCross can_fail k least (error.Call e) old new =
    StopsIn can_fail (Advance k ∷ Await k least ∷ []) (error.Call e) old new
FailsToCross can_fail k least (error.Spent place) old new =
    (place ≡ k) × (2 ^ 64 ≤ least) × (new ≡ old)

-- no word was given, or it was not set to 0
abbrev pub FailsToClear : (Fault → Type 0) → CallError → List Answer → List Answer → Type 0
FailsToClear can_fail e old new =
    Fails can_fail (Alloc 8) e old new
    ⊎ ((addr : ℕ) × Fails can_fail (Store 8 addr 0) e (old ++ allots 8 addr ∷ []) new)

-- no ticket was drawn, or its turn was not answered
abbrev pub FailsToEnter : (Fault → Type 0) → ℕ → ℕ → CallError → List Answer → List Answer → Type 0
FailsToEnter can_fail a k e old new =
    Fails can_fail (FetchAdd 8 a 1) e old new
    ⊎ ((ticket : ℕ) × Fails can_fail (Await k ticket) e (old ++ draws a ticket ∷ []) new)

-- it was not claimed, or the end of another's turn was not answered
abbrev pub FailsToBegin : (Fault → Type 0) → ℕ → ℕ → CallError → List Answer → List Answer → Type 0
FailsToBegin can_fail a k e old new =
    Fails can_fail (Cas 8 a 0 1) e old new
    ⊎ ((found : ℕ) × (found ≢ 0) × Fails can_fail (Await k 1) e (old ++ claims_word a found
    ∷ []) new)

-- the n-th value was not sent, or not taken: so many can't be counted, or a call failed
abbrev pub FailsToSend : (Fault → Type 0) → Queue → ℕ → ℕ → SyncError → List Answer → List Answer
    → Type 0
FailsToSend can_fail q n value (error.Call e) old new =
    StopsIn can_fail
    (Await q.taken (n + 1 - q.size) ∷ Store 8 (slot q n) value ∷ Advance q.sent ∷ [])
    (error.Call e) old new
FailsToSend can_fail q n value (error.Spent place) old new =
    (place ≡ q.sent) × (2 ^ 64 ≤ n + 1) × (new ≡ old)

abbrev pub FailsToTake : (Fault → Type 0) → Queue → ℕ → SyncError → List Answer → List Answer
    → Type 0
FailsToTake can_fail q n (error.Call e) old new =
    StopsIn can_fail (Await q.sent (n + 1) ∷ Load 8 (slot q n) ∷ Advance q.taken ∷ [])
    (error.Call e)
    old new
FailsToTake can_fail q n (error.Spent place) old new =
    (place ≡ q.sent) × (2 ^ 64 ≤ n + 1) × (new ≡ old)

-- the number was not given: the store failed, or the barrier was not passed
abbrev pub FailsToGive : (Fault → Type 0) → Broadcast → ℕ → SyncError → List Answer → List Answer
    → Type 0
FailsToGive can_fail b value (error.Call e) old new =
    StopsIn can_fail
    (Store 8 b.addr value ∷ Advance b.barrier.count ∷ Await b.barrier.count (least_of b.barrier)
    ∷ [])
    (error.Call e) old new
FailsToGive can_fail b value (error.Spent place) old new =
    (place ≡ b.barrier.count) × (2 ^ 64 ≤ least_of b.barrier) × (new ≡ old ++ stores b.addr value
    ∷ [])

-- the number was not got: the barrier was not passed, or the load failed
abbrev pub FailsToGet : (Fault → Type 0) → Broadcast → SyncError → List Answer → List Answer
    → Type 0
FailsToGet can_fail b (error.Call e) old new =
    StopsIn can_fail
    (Advance b.barrier.count ∷ Await b.barrier.count (least_of b.barrier) ∷ Load 8 b.addr ∷ [])
    (error.Call e) old new
FailsToGet can_fail b (error.Spent place) old new =
    (place ≡ b.barrier.count) × (2 ^ 64 ≤ least_of b.barrier) × (new ≡ old)

-- the barrier was passed, and the load failed
abbrev pub FailsAtLoad : (Fault → Type 0) → Broadcast → SyncError → List Answer → List Answer
    → Type 0
FailsAtLoad can_fail b (error.Call e) old new =
    (mid : List Answer) × Crosses b.barrier.count (least_of b.barrier) old mid
    × Fails can_fail (Load 8 b.addr) e mid new
FailsAtLoad can_fail b (error.Spent place) old new = ⊥

-- the broadcast is as it was where the barrier was not passed, and goes on where the load failed
abbrev pub LeavesBroadcast : (Fault → Type 0) → Broadcast → Broadcast → SyncError → List Answer
    → List Answer → Type 0
LeavesBroadcast can_fail old_b new_b e old new =
    ((new_b ≡ old_b) × FailsToCross can_fail old_b.barrier.count (least_of old_b.barrier) e old new)
    ⊎ ((new_b ≡ record old_b { barrier = passed_on old_b.barrier })
    × FailsAtLoad can_fail old_b e old new)

-- the fault with which a program gives up that has this error
abbrev pub fault_by : SyncError → Fault
fault_by (error.Call e) = fault_of e
fault_by (error.Spent place) = CountFull
