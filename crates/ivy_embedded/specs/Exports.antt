-- What the exports answer, and what they do to the node of a handle. A status below 256 is a reply
-- of the memory; one from there on is none, and where it is no PENDING either, the node is as it
-- was.
use Rattle.std.specs.Prelude.{◌≡◌, ◌≢◌, ◌⊎◌, ℕ, ◌+◌, ◌*◌, ◌/◌, ◌<◌, ◌≤◌, true, false, List, [], ◌∷◌, ◌++◌, take, length, slice_get, Option, None, Some, IfSome, IsSomeAnd, MatchResult}
use Rattle.ivy_model.specs.declared.Call.{Call}
use Rattle.ivy_model.specs.declared.Call.TheVariants.{Load, Store, Swap, Cas, FetchAdd, Count, Advance, Await, Alloc, Free}
use Rattle.ivy_model.specs.declared.Fault.{Fault}
use Rattle.ivy_model.specs.declared.Fault.TheVariants.{Busy, Memory}
use Rattle.ivy_model.specs.declared.Reply.{Reply}
use Rattle.ivy_model.specs.declared.Reply.TheVariants.{Value, Done, Refused}
use Rattle.ivy_model.specs.declared.Row.{Row}
use Rattle.ivy_model.specs.stated.Legal.{HasWidth}
use Rattle.ivy_model.specs.stated.Numbers.{fault_number}
use Rattle.ivy_model.specs.Rows.{calls_of, numbers_in, row}
use Rattle.ivy_model.specs.Wants.{RanOut}
use Rattle.ivy_wire.specs.Destinations.{dest_of}
use Rattle.ivy_wire.specs.stated.DecodeErrors.{checked}
use Rattle.ivy_link.specs.declared.Verdict.{Verdict}
use Rattle.ivy_link.specs.declared.Verdict.TheVariants as verdict
use Rattle.ivy_moves.specs.stated.Nodes.{pulsing}
use Rattle.ivy_program.specs.OwnCode.{IsFree}
use Rattle.ivy_host.specs.stated.Hosts.{number_of, turn_of}
use Rattle.ivy_host.specs.stated.Managers.{managed_ops}
use Rattle.ivy_site.specs.Calls.{AreAnswered, AreTaken, BeginsRow, IsCallOf}
use Rattle.ivy_site.specs.Handed.{site_handed}
use Rattle.ivy_site.specs.SiteView.{SiteView, after_pulse_to}
use Rattle.ivy_site.specs.Sites.{AfterDelivery, SiteTurns}
use Rattle.ivy_embedded.specs.declared.lending.Lending.{Lending}
use Rattle.ivy_embedded.specs.declared.lending.Want.{Want}
use Rattle.ivy_embedded.specs.declared.lending.Lending.TheVariants.{Unlent}
use Rattle.ivy_embedded.specs.Lending.{IsWanted, lending_at, may_call}
use Rattle.ivy_embedded.specs.Nodes.{Embedded, waiting_in}
use Rattle.ivy_embedded.specs.declared.status.TheConstants.{DONE, PENDING, CLOSED, MEMORY, BUSY, NO_CALL, BAD_ARGUMENT, NO_FRAME, SHORT_BUFFER, LENT, WANTED}
use Rattle.ivy_embedded.specs.declared.status.TheConstants.{LOAD, STORE, SWAP, COMPARE_AND_SWAP, FETCH_AND_ADD, COUNT, ADVANCE, AWAIT, ALLOCATE, FREE}

-- these numbers ask for this call
abbrev pub IsRequest : ℕ → ℕ → ℕ → ℕ → ℕ → Call → Type 0
IsRequest kind width place operand expected (Load w addr) =
    (kind ≡ LOAD) × (w ≡ width) × (addr ≡ place)
IsRequest kind width place operand expected (Store w addr value) =
    (kind ≡ STORE) × (w ≡ width) × (addr ≡ place) × (value ≡ operand)
IsRequest kind width place operand expected (Swap w addr value) =
    (kind ≡ SWAP) × (w ≡ width) × (addr ≡ place) × (value ≡ operand)
IsRequest kind width place operand expected (Cas w addr old value) =
    (kind ≡ COMPARE_AND_SWAP) × (w ≡ width) × (addr ≡ place) × (old ≡ expected)
    × (value ≡ operand)
IsRequest kind width place operand expected (FetchAdd w addr value) =
    (kind ≡ FETCH_AND_ADD) × (w ≡ width) × (addr ≡ place) × (value ≡ operand)
IsRequest kind width place operand expected (Count k) = (kind ≡ COUNT) × (k ≡ place)
IsRequest kind width place operand expected (Advance k) = (kind ≡ ADVANCE) × (k ≡ place)
IsRequest kind width place operand expected (Await k least) =
    (kind ≡ AWAIT) × (k ≡ place) × (least ≡ operand)
IsRequest kind width place operand expected (Alloc size) = (kind ≡ ALLOCATE) × (size ≡ operand)
IsRequest kind width place operand expected (Free addr) = (kind ≡ FREE) × (addr ≡ place)

-- the kind is none of an access to a word
abbrev pub IsNoAccess : ℕ → Type 0
IsNoAccess kind = (kind ≢ LOAD) × (kind ≢ STORE) × (kind ≢ SWAP) × (kind ≢ COMPARE_AND_SWAP)
    × (kind ≢ FETCH_AND_ADD)

-- no call of a legal width is asked for
abbrev pub AsksNone : (Call → Type 0) → Type 0
AsksNone Asked = (call : Call) → Asked call → HasWidth call → ⊥

-- a turn, after which the reply to this call is recorded, once
pub record Replies (call : Call) (reply : Reply) (old new : SiteView) : Type 0 where
  pub turns : SiteTurns old new
  pub recorded : new.node.core.history ≡ old.node.core.history
      ++ record { node = number_of old.node.core; call = call; reply = reply } ∷ []

-- a turn in which no reply is recorded
abbrev pub Waits : SiteView → SiteView → Type 0
Waits old new = SiteTurns old new × (new.node.core.history ≡ old.node.core.history)

-- the node's turn changes nothing, by the definitions
abbrev pub IsIdle : SiteView → SiteView → Type 0
IsIdle old new = (turn_of managed_ops old.node.core ≡ None) × (new ≡ old)

-- the turn of a node that has a call: it gave this reply, or none yet
abbrev pub AfterCall : Option Reply → SiteView → SiteView → Type 0
AfterCall None old new = IsIdle old new ⊎ Waits old new
AfterCall (Some reply) old new = (call : Call) × IsCallOf old call × Replies call reply old new

-- the call is handed in, and the node has a turn, or none where memory or numbers ran out: the next
-- turn is its first then
abbrev pub AfterBegin : Call → Option Reply → SiteView → SiteView → Type 0
AfterBegin call None old new =
    (new ≡ site_handed ((call ∷ []) ∷ []) old) ⊎ Waits (site_handed ((call ∷ []) ∷ []) old) new
AfterBegin call (Some reply) old new = Replies call reply (site_handed ((call ∷ []) ∷ []) old) new

-- the status, and the value, which was the one before, tell the reply
abbrev pub Tells : Reply → ℕ → ℕ → ℕ → Type 0
Tells (Value number) status before value = (status ≡ DONE) × (value ≡ number)
Tells Done status before value = (status ≡ DONE) × (value ≡ before)
Tells (Refused number) status before value =
    (status ≡ number) × (number < 256) × (value ≡ before)

-- the status tells whether there is a reply, and which
abbrev pub TellsProgress : Option Reply → ℕ → ℕ → ℕ → Type 0
TellsProgress None status before value = (status ≡ PENDING) × (value ≡ before)
TellsProgress (Some reply) status before value = Tells reply status before value

-- a call on a closed handle says so; one on an open handle leaves a node there, which is as `Does`
-- says, or as it was where the call is refused for such a reason
abbrev pub Answers : ℕ → Option Embedded → Option Embedded → (Embedded → Embedded → Type 0)
    → (Embedded → Type 0) → Type 0
Answers status None new Does Refuses = (status ≡ CLOSED) × (new ≡ None)
Answers status (Some s) None Does Refuses = ⊥
Answers status (Some s) (Some t) Does Refuses = Does s t ⊎ (Refuses s × (t ≡ s))

-- the status of a fault that is no reply
abbrev pub IsStatus : ℕ → Fault → Type 0
IsStatus status fault = status ≡ 256 + fault_number fault

-- memory or message numbers ran out
abbrev pub TellsWant : ℕ → Type 0
TellsWant status = (fault : Fault) × RanOut fault × IsStatus status fault

-- the node changes so; the string that was looked at stays, and so does what is lent
abbrev pub OfSite : (SiteView → SiteView → Type 0) → Embedded → Embedded → Type 0
OfSite Does s t = (t.first ≡ s.first) × Does s.site t.site × (t.lent ≡ s.lent)

-- each call of the node has its reply
abbrev pub HasNoCall : SiteView → Type 0
HasNoCall s = IsFree s.node.core.process

-- the call of these numbers is handed in, where each before has its reply and its page is not lent, or
-- so that it may be made; and the status tells what came of it
abbrev pub Begins : (Call → Type 0) → ℕ → ℕ → ℕ → Embedded → Embedded → Type 0
Begins Asked status before value s t = (call : Call) × Asked call × (progress : Option Reply)
    × TellsProgress progress status before value × OfSite (AfterBegin call progress) s t
    × HasNoCall s.site × (may_call s call ≡ true)

-- each call has its reply, and the page of this address is not lent
abbrev pub IsReady : ℕ → Embedded → Type 0
IsReady place s = HasNoCall s.site × (lending_at s (place / s.site.config.page_size) ≡ Unlent)

-- each call whose first number is this one may be made: its page is not lent, or so that it may be
abbrev pub MayBegin : ℕ → Embedded → Type 0
MayBegin place s = (kind width operand expected : ℕ) (call : Call)
    → IsRequest kind width place operand expected call → may_call s call ≡ true

-- with this fault: the one before is in progress; or there is no memory
abbrev pub IsBeginFault : Fault → SiteView → Type 0
IsBeginFault fault s =
    ((fault ≡ Busy) × (HasNoCall s → ⊥)) ⊎ ((fault ≡ Memory) × HasNoCall s)

-- the call of these numbers may not be made, as its page is lent, and each before has its reply
abbrev pub IsOfLent : (Call → Type 0) → Embedded → Type 0
IsOfLent Asked s = (call : Call) × Asked call × (may_call s call ≡ false) × HasNoCall s.site

-- why a call is not begun: there is no such call; the one before is in progress; no memory; its page
-- is lent
abbrev pub RefusesCall : (Call → Type 0) → ℕ → Embedded → Type 0
RefusesCall Asked status s = ((status ≡ BAD_ARGUMENT) × AsksNone Asked)
    ⊎ ((status ≡ BUSY) × (HasNoCall s.site → ⊥))
    ⊎ ((status ≡ MEMORY) × HasNoCall s.site)
    ⊎ ((status ≡ LENT) × IsOfLent Asked s)

-- the call in progress is asked for its reply
abbrev pub Polls : ℕ → ℕ → ℕ → Embedded → Embedded → Type 0
Polls status before value s t = (progress : Option Reply)
    × TellsProgress progress status before value × OfSite (AfterCall progress) s t
    × (HasNoCall s.site → ⊥)

-- why it has none: memory or numbers ran out; each call has its reply
abbrev pub RefusesPoll : ℕ → Embedded → Type 0
RefusesPoll status s = TellsWant status ⊎ ((status ≡ NO_CALL) × HasNoCall s.site)

-- so many words in a row from the address on, whose bytes stand at the head of the buffer, were
-- loaded or stored, each by a call that was answered in the turn in which it began, and the same
-- strings wait
abbrev pub CarriesOut : Row → ℕ → List ℕ → ℕ → ℕ → Embedded → Embedded → Type 0
CarriesOut kind addr buffer status words s t = (status ≡ DONE) × (8 * words ≤ length buffer)
    × (waiting_in t ≡ waiting_in s)
    × OfSite (AreAnswered (row kind s.site.me addr (numbers_in words buffer))) s t

-- the status tells whether calls of so many words are in progress, or of none
abbrev pub TellsBegun : ℕ → ℕ → Type 0
TellsBegun words status =
    ((words ≡ 0) × (status ≡ DONE)) ⊎ ((words ≢ 0) × (status ≡ PENDING))

-- the calls of so many words in a row from the address on, for which the buffer has bytes, were made
-- together, and the first of them waits; or of none, and nothing was done
abbrev pub BeginsBlock : Row → ℕ → List ℕ → ℕ → ℕ → Embedded → Embedded → Type 0
BeginsBlock kind addr buffer status words s t = TellsBegun words status
    × (8 * words ≤ length buffer)
    × OfSite (BeginsRow (calls_of (row kind 0 addr (numbers_in words buffer)))) s t

-- calls of so many words in a row from the address on, whose bytes stand at the head of the buffer,
-- were in progress, and each had its reply, one after another, and the same strings wait; where
-- there were any, no call is in progress
abbrev pub TakesBlock : Row → ℕ → List ℕ → ℕ → ℕ → Embedded → Embedded → Type 0
TakesBlock kind addr buffer status words s t = (status ≡ DONE) × (8 * words ≤ length buffer)
    × (waiting_in t ≡ waiting_in s) × (words ≢ 0 → t.site.node.core.memory.asked ≡ None)
    × OfSite (AreTaken (row kind s.site.me addr (numbers_in words buffer))) s t

-- the number of a verdict
abbrev pub verdict_number : Verdict → ℕ
verdict_number verdict.Next = 0
verdict_number verdict.Repeat = 1
verdict_number verdict.Ahead = 2
verdict_number verdict.NotMine = 3

-- the string would take a page that is lent
abbrev pub TakesLent : List ℕ → Embedded → Type 0
TakesLent bytes s = (want : Want) × IsWanted s bytes want

-- the string was delivered, by this verdict, and took no page that was lent
abbrev pub Delivers : List ℕ → ℕ → ℕ → Embedded → Embedded → Type 0
Delivers bytes status what s t = (status ≡ DONE) × (v : Verdict) × (what ≡ verdict_number v)
    × OfSite (AfterDelivery bytes v) s t × (TakesLent bytes s → ⊥)

-- why it was not: the string spells no frame; memory or numbers ran out; or it would take a page that
-- is lent
abbrev pub RefusesString : List ℕ → ℕ → Embedded → Type 0
RefusesString bytes status s = MatchResult (checked s.site.config bytes)
    (λ _. TellsWant status ⊎ ((status ≡ WANTED) × TakesLent bytes s))
    (IsStatus status)

-- the node pulsed to another one
abbrev pub Pulses : ℕ → ℕ → Embedded → Embedded → Type 0
Pulses to status s t = (status ≡ DONE) × (to < s.site.config.nodes) × (to ≢ s.site.me)
    × OfSite (λ old new. new ≡ after_pulse_to old to (pulsing old.node to)) s t

-- why it did not: no memory, or there is no such other node
abbrev pub RefusesPulse : ℕ → ℕ → Embedded → Type 0
RefusesPulse to status s = (status ≡ MEMORY)
    ⊎ ((status ≡ BAD_ARGUMENT) × ((s.site.config.nodes ≤ to) ⊎ (to ≡ s.site.me)))

-- nothing changed but which strings wait
abbrev pub ChangesWaiting : Embedded → Embedded → Type 0
ChangesWaiting s t = t.site ≡ record s.site { waiting = t.site.waiting }

-- the first string that waits stands at the head of the buffer, of just this length, and waits no
-- more
abbrev pub Gives : List ℕ → ℕ → ℕ → Embedded → Embedded → Type 0
Gives buffer len dest s t = (waiting_in s ≡ take len buffer ∷ waiting_in t)
    × IfSome (dest_of (take len buffer)) (λ d. dest ≡ d) × (len ≤ length buffer)

-- a string waits, the first has this length and is longer than the buffer, and all wait as before
abbrev pub IsTooLong : List ℕ → ℕ → Embedded → Embedded → Type 0
IsTooLong buffer len s t = (waiting_in t ≡ waiting_in s) × (length buffer < len)
    × IsSomeAnd (slice_get (waiting_in s) 0) (λ string. len ≡ length string)

-- what came of a look for a string, at an open handle
abbrev pub Takes : ℕ → List ℕ → ℕ → ℕ → Embedded → Embedded → Type 0
Takes status buffer len dest s t = ChangesWaiting s t
    × (((status ≡ DONE) × Gives buffer len dest s t)
    ⊎ ((status ≡ SHORT_BUFFER) × IsTooLong buffer len s t)
    ⊎ ((status ≡ NO_FRAME) × (waiting_in s ≡ []) × (waiting_in t ≡ [])))

-- and at any handle
abbrev pub TakesAt : ℕ → List ℕ → ℕ → ℕ → Option Embedded → Option Embedded → Type 0
TakesAt status buffer len dest None new = (status ≡ CLOSED) × (new ≡ None)
TakesAt status buffer len dest (Some s) None = ⊥
TakesAt status buffer len dest (Some s) (Some t) = Takes status buffer len dest s t

-- what is lent of the node of a handle
abbrev pub marks_at : Option Embedded → List Lending
marks_at None = []
marks_at (Some e) = e.lent
