-- Where a call of several calls stops.
use Rattle.std.proofs.Common.{◌≡◌, ℕ, ◌+◌, ◌-◌, ◌*◌, inl, inr, List, [], ◌∷◌, ◌++◌, refl, subst}
use Rattle.std.proofs.Common.{sym, ◌∙◌}
use Rattle.std.specs.Prelude.{IfErr, IsErrAnd, Result, Ok, Err}
use Rattle.ivy_model.specs.declared.call.Call.{Call}
use Rattle.ivy_model.specs.declared.call.Call.TheVariants.{Load, Store, Advance, Await}
use Rattle.ivy_model.specs.declared.call.Reply.{Reply}
use Rattle.ivy_model.specs.declared.call.Reply.TheVariants.{Value, Done}
use Rattle.ivy_model.specs.declared.fault.Fault.{Fault}
use Rattle.ivy_calls.specs.declared.answer.Answer.{Answer}
use Rattle.ivy_calls.specs.declared.error.CallError.{CallError}
use Rattle.ivy_calls.specs.declared.error.CallError.TheVariants as call_error
use Rattle.ivy_calls.specs.Answers.{Adds}
use Rattle.ivy_calls.specs.Fails.{Fails}
use Rattle.ivy_sync.specs.declared.broadcast.Broadcast.{Broadcast}
use Rattle.ivy_sync.specs.declared.error.SyncError.{SyncError}
use Rattle.ivy_sync.specs.declared.error.SyncError.TheVariants as error
use Rattle.ivy_sync.specs.declared.queue.Queue.{Queue}
use Rattle.ivy_sync.specs.declared.reduction.Reduction.{Reduction}
use Rattle.ivy_sync.specs.meeting.Barriers.{least_of}
use Rattle.ivy_sync.specs.Doing.{Crosses, stores}
use Rattle.ivy_sync.specs.Failing.{StopsIn, FailsToCross, FailsToGet, FailsToGive, FailsToSend}
use Rattle.ivy_sync.specs.Failing.{FailsToTake}
use Rattle.ivy_sync.specs.meeting.Folds.{FailsToGather}
use Rattle.ivy_sync.specs.queueing.Queues.{slot}

-- of a result that has exactly this error, and of one whose error is such a one
pub fails_as : {T E : Type 0} (r : Result T E) (e : E) (Q : E → Type 0) → IsErrAnd r (λ x. x ≡ e)
    → Q e → IfErr r Q
fails_as (Ok v) e Q is q = tt
fails_as (Err x) e Q is q = subst Q (sym is) q

pub fails_so : {T E : Type 0} (r : Result T E) (P Q : E → Type 0) → ((e : E) → P e → Q e)
    → IfErr r P → IfErr r Q
fails_so (Ok v) P Q w h = tt
fails_so (Err x) P Q w h = w x h

-- a fault that a call has in one state is one that it has in some state
pub fails_weaker : (P Q : Fault → Type 0) → ((f : Fault) → P f → Q f) → (call : Call)
    (e : CallError) (old new : List Answer) → Fails P call e old new → Fails Q call e old new
fails_weaker P Q w call (call_error.Refused asked fault) old new h = h
fails_weaker P Q w call (call_error.Unfit asked given) old new h = h
fails_weaker P Q w call (call_error.Fault asked fault) old new h = (h.0, h.1, w fault h.2)

-- one call was answered, and a later one stops
stops_on : (can : Fault → Type 0) (call : Call) (calls : List Call) (reply : Reply) (e : CallError)
    (old mid new : List Answer) → Adds call reply old mid
    → StopsIn can calls (error.Call e) mid new → StopsIn can (call ∷ calls) (error.Call e) old new
stops_on can call calls reply e old mid new adds stops =
    inr (reply, subst (λ h. StopsIn can calls (error.Call e) h new) adds stops)

pub second_stops : (can : Fault → Type 0) (one two : Call) (calls : List Call) (reply : Reply)
    (e : CallError) (old mid new : List Answer) → Adds one reply old mid → Fails can two e mid new
    → StopsIn can (one ∷ two ∷ calls) (error.Call e) old new
second_stops can one two calls reply e old mid new adds fails =
    stops_on can one (two ∷ calls) reply e old mid new adds (inl fails)

pub third_stops : (can : Fault → Type 0) (one two three : Call) (calls : List Call)
    (reply reply' : Reply) (e : CallError) (old mid later new : List Answer) → Adds one reply old
    mid
    → Adds two reply' mid later → Fails can three e later new
    → StopsIn can (one ∷ two ∷ three ∷ calls) (error.Call e) old new
third_stops can one two three calls reply reply' e old mid later new adds adds' fails =
    stops_on can one (two ∷ three ∷ calls) reply e old mid new adds
    (second_stops can two three calls reply' e mid later new adds' fails)

pub get_stops : (can : Fault → Type 0) (b : Broadcast) (e : CallError) (old mid new : List Answer)
    → Crosses b.barrier.count (least_of b.barrier) old mid → Fails can (Load 8 b.addr) e mid new
    → FailsToGet can b (error.Call e) old new
get_stops can b e old mid new crosses fails =
    third_stops can (Advance b.barrier.count) (Await b.barrier.count (least_of b.barrier))
    (Load 8 b.addr) []
    Done (Value crosses.found) e old _ mid new refl crosses.whole fails

pub give_stops : (can : Fault → Type 0) (b : Broadcast) (value : ℕ) (e : SyncError)
    (old mid new : List Answer) → mid ≡ old ++ stores b.addr value ∷ []
    → FailsToCross can b.barrier.count (least_of b.barrier) e mid new
    → FailsToGive can b value e old new
give_stops can b value (error.Call e) old mid new adds fails =
    stops_on can (Store 8 b.addr value)
    (Advance b.barrier.count ∷ Await b.barrier.count (least_of b.barrier)
    ∷ []) Done e old mid new adds
    fails
give_stops can b value (error.Spent place) old mid new adds fails =
    (fails.0, fails.1, fails.2 ∙ adds)

pub gather_stops : (can : Fault → Type 0) (r : Reduction) (me value : ℕ) (e : SyncError)
    (old mid new : List Answer) → mid ≡ old ++ stores (r.addr + 8 * me) value ∷ []
    → FailsToCross can r.barrier.count (r.barrier.passed + r.barrier.nodes) e mid new
    → FailsToGather can r me value e old new
gather_stops can r me value (error.Call e) old mid new adds fails =
    inl (stops_on can (Store 8 (r.addr + 8 * me) value)
    (Advance r.barrier.count ∷ Await r.barrier.count (r.barrier.passed + r.barrier.nodes)
    ∷ []) Done e
    old mid new adds fails)
gather_stops can r me value (error.Spent place) old mid new adds fails =
    (fails.0, fails.1, fails.2 ∙ adds)

-- the calls of a queue, with their words and counts as the code has them
pub send_stops_second : (can : Fault → Type 0) (q : Queue) (n value least place : ℕ) (reply : Reply)
    (e : CallError) (old mid new : List Answer) → least ≡ n + 1 - q.size → place ≡ slot q n
    → Adds (Await q.taken least) reply old mid → Fails can (Store 8 place value) e mid new
    → FailsToSend can q n value (error.Call e) old new
send_stops_second can q n value least place reply e old mid new l p adds fails =
    second_stops can (Await q.taken (n + 1 - q.size)) (Store 8 (slot q n) value)
    (Advance q.sent ∷ []) reply e old mid new
    (subst (λ x. Adds (Await q.taken x) reply old mid) l adds)
    (subst (λ x. Fails can (Store 8 x value) e mid new) p fails)

pub send_stops_third : (can : Fault → Type 0) (q : Queue) (n value least place : ℕ)
    (reply reply' : Reply) (e : CallError) (old mid later new : List Answer)
    → least ≡ n + 1 - q.size → place ≡ slot q n → Adds (Await q.taken least) reply old mid
    → Adds (Store 8 place value) reply' mid later → Fails can (Advance q.sent) e later new
    → FailsToSend can q n value (error.Call e) old new
send_stops_third can q n value least place reply reply' e old mid later new l p adds adds' fails =
    third_stops can (Await q.taken (n + 1 - q.size)) (Store 8 (slot q n) value) (Advance q.sent) []
    reply reply' e old mid later new (subst (λ x. Adds (Await q.taken x) reply old mid) l adds)
    (subst (λ x. Adds (Store 8 x value) reply' mid later) p adds') fails

pub take_stops_second : (can : Fault → Type 0) (q : Queue) (n least place : ℕ) (reply : Reply)
    (e : CallError) (old mid new : List Answer) → least ≡ n + 1 → place ≡ slot q n
    → Adds (Await q.sent least) reply old mid → Fails can (Load 8 place) e mid new
    → FailsToTake can q n (error.Call e) old new
take_stops_second can q n least place reply e old mid new l p adds fails =
    second_stops can (Await q.sent (n + 1)) (Load 8 (slot q n)) (Advance q.taken ∷ []) reply e old
    mid
    new (subst (λ x. Adds (Await q.sent x) reply old mid) l adds)
    (subst (λ x. Fails can (Load 8 x) e mid new) p fails)

pub take_stops_third : (can : Fault → Type 0) (q : Queue) (n least place : ℕ) (reply reply' : Reply)
    (e : CallError) (old mid later new : List Answer) → least ≡ n + 1 → place ≡ slot q n
    → Adds (Await q.sent least) reply old mid → Adds (Load 8 place) reply' mid later
    → Fails can (Advance q.taken) e later new
    → FailsToTake can q n (error.Call e) old new
take_stops_third can q n least place reply reply' e old mid later new l p adds adds' fails =
    third_stops can (Await q.sent (n + 1)) (Load 8 (slot q n)) (Advance q.taken) [] reply reply' e
    old
    mid later new (subst (λ x. Adds (Await q.sent x) reply old mid) l adds)
    (subst (λ x. Adds (Load 8 x) reply' mid later) p adds') fails
