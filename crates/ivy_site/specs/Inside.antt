-- What the calls inside a site do, of which its own calls are made.
use Rattle.std.specs.Prelude.{◌≡◌, ◌≢◌, ℕ, ◌+◌, List, length, MatchOption, Bool, true, false, Option, Some, None, Contains}
use Rattle.ivy_model.specs.declared.Call.{Call}
use Rattle.ivy_model.specs.declared.Fault.{Fault}
use Rattle.ivy_model.specs.declared.Fault.TheVariants.{NumbersSpent}
use Rattle.ivy_wire.specs.stated.Data.{Frame}
use Rattle.ivy_wire.specs.stated.Spelling.{Spells}
use Rattle.ivy_link.specs.declared.Verdict.{Verdict}
use Rattle.ivy_link.specs.declared.Verdict.TheVariants as verdict
use Rattle.ivy_program.specs.stated.InstructionSteps.{Process, answered_with}
use Rattle.ivy_host.specs.stated.Managers.{Managed, managed_ops}
use Rattle.ivy_moves.specs.stated.Cores.{Outcome}
use Rattle.ivy_model.specs.declared.Record.{Record}
use Rattle.ivy_link.specs.stated.Linked.{has_numbers}
use Rattle.ivy_alloc.specs.declared.CallProgress.{CallProgress}
use Rattle.ivy_alloc.specs.declared.CallProgress.TheVariants.{Given, Unserved}
use Rattle.ivy_memory.specs.stated.Memories as memories
use Rattle.ivy_link.specs.Outboxes.{Outbox, HasNumbers, posted_by}
use Rattle.ivy_host.specs.Handing.{fetching}
use Rattle.ivy_program.specs.stated.Programs.{fetches_of}
use Rattle.ivy_host.specs.stated.Hosts.{Host, turn_of}
use Rattle.ivy_link.specs.Holding.{ready_of}
use Rattle.ivy_site.specs.Calls.{reply_in, recorded_by}
use Rattle.ivy_site.specs.declared.host.Host as host
use Rattle.ivy_site.specs.SiteView.{SiteView, holding_at}
use Rattle.ivy_site.specs.Sites.{early_at, SiteDelivers, holding_in, GoesOnOnce}

-- a string with this verdict came too early, told from the events
abbrev pub CameEarlyAs : Verdict → List ℕ → SiteView → Type 0
CameEarlyAs verdict.NotMine bytes s = Unit {0}
CameEarlyAs verdict.Next bytes s = Unit {0}
CameEarlyAs verdict.Repeat bytes s = Unit {0}
CameEarlyAs verdict.Ahead bytes s = Contains (early_at s) bytes

-- the string is held, where there is a place for it: the frame in it says where
abbrev pub HoldsString : List ℕ → SiteView → SiteView → Type 0
HoldsString bytes old new =
    (f : Frame) → Spells old.config f bytes → new ≡ holding_in old f bytes

-- one string, before the site goes on: the string of a frame that came too early is held
abbrev pub Holds : Verdict → Frame → List ℕ → SiteView → SiteView → Type 0
Holds verdict.NotMine f bytes mid new = new ≡ mid
Holds verdict.Next f bytes mid new = new ≡ mid
Holds verdict.Repeat f bytes mid new = new ≡ mid
Holds verdict.Ahead f bytes mid new = new ≡ holding_in mid f bytes

-- the string is delivered; the source is told, and the string again where it came too early
pub record Hears (bytes : List ℕ) (answer : Verdict) (source : ℕ) (again : Option (List ℕ))
    (old new : SiteView) : Type 0 where
  pub first : SiteDelivers bytes answer old new
  pub from : first.frame.source ≡ source
  pub early : MatchOption again (answer ≢ verdict.Ahead)
      (λ string. (string ≡ bytes) × Contains (early_at new) string × (answer ≡ verdict.Ahead))

-- the string is delivered, and held where it came too early; the source is told
pub record Receives (bytes : List ℕ) (verdict : Verdict) (source : ℕ) (old new : SiteView) : Type 0
  where
    pub mid : SiteView
    pub first : SiteDelivers bytes verdict old mid
    pub from : first.frame.source ≡ source
    pub holds : Holds verdict first.frame bytes mid new

-- the site went on once, with this string that it held, or it holds none that is the next one
abbrev pub AfterOnce : Option (List ℕ) → ℕ → SiteView → SiteView → Type 0
AfterOnce (Some bytes) source old new = GoesOnOnce source bytes old new
AfterOnce None source old new = (ready_of (holding_at new) source ≡ None) × (new ≡ old)

-- whether its memory would ask for the page now
abbrev pub host_can_fetch : Host Managed → ℕ → Bool → Bool
host_can_fetch h page write =
    (memories.memory_fetched managed_ops h.memory page write (length h.history + 1)).begun

-- the host of these, whose program has no fetch that is not used up
abbrev pub host_of : memories.NodeMemory Managed → Process → List Record → Host Managed
host_of memory process history = record {
  memory = memory;
  process = process;
  history = history;
  used = length (fetches_of process.program);
}

-- the host that the code has
abbrev pub host_in : {A : Type 0} → host.Host A → Host Managed
host_in h = host_of h.memory h.machine h.history.records

-- whether the answer is a reply, or that the call waits
abbrev pub is_served : CallProgress → Bool
is_served Unserved = false
is_served answer = true

-- the history with a record of the reply, where one was given
abbrev pub kept_by : List Record → ℕ → Call → CallProgress → List Record
kept_by history node k answer = recorded_by history node k (reply_in answer)

-- the process goes on with the reply, where one was given
abbrev pub told_by : Process → CallProgress → Process
told_by process (Given r) = answered_with process r
told_by process answer = process

-- the node has a turn, by the rules of the definitions, and what is posted is sent
pub record HasTurn (old : Host Managed) (box : Outbox) (new : Host Managed)
    (after : Outbox) : Type 0 where
  pub outcome : Outcome (Host Managed)
  pub turn : turn_of managed_ops old ≡ Some outcome
  pub host : new ≡ outcome.after
  pub numbers : HasNumbers box outcome.posted
  pub sent : after ≡ posted_by box outcome.posted

-- or its turn changes nothing
abbrev pub AfterHostTurn : Bool → Host Managed → Outbox → Host Managed → Outbox → Type 0
AfterHostTurn true old box new after = HasTurn old box new after
AfterHostTurn false old box new after =
    (turn_of managed_ops old ≡ None) × (new ≡ old) × (after ≡ box)

-- a page is fetched in the node's turn, or its memory asks for nothing, and nothing changes
abbrev pub AfterHostFetch : Bool → ℕ → Bool → Host Managed → Outbox → Host Managed → Outbox
    → Type 0
AfterHostFetch true page write old box new after =
    HasTurn (fetching page write old) box new after × (host_can_fetch old page write ≡ true)
AfterHostFetch false page write old box new after =
    (host_can_fetch old page write ≡ false) × (new ≡ old) × (after ≡ box)

-- numbers are at an end for what it would post
abbrev pub HasNoNumbers : Host Managed → Outbox → Fault → Type 0
HasNoNumbers old box fault = fault ≡ NumbersSpent
    → (outcome : Outcome (Host Managed)) × (turn_of managed_ops old ≡ Some outcome)
    × (has_numbers box.link outcome.posted ≡ false)
