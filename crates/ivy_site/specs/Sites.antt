-- What the calls of a site do.
use Rattle.std.specs.Prelude.{◌≡◌, ◌⊎◌, ℕ, ◌+◌, ◌*◌, ◌<◌, List, [], ◌∷◌, ◌++◌, length, replicate, Option, Some, None, Contains, MatchOption}
use Rattle.ivy_model.specs.declared.Config.{Config}
use Rattle.ivy_model.specs.declared.Call.{Call}
use Rattle.ivy_model.specs.declared.Call.TheVariants.{Await}
use Rattle.ivy_model.specs.declared.Fault.{Fault}
use Rattle.ivy_model.specs.declared.Fault.TheVariants.{NumbersSpent}
use Rattle.ivy_model.specs.Wants.{RanOut}
use Rattle.ivy_wire.specs.stated.Data.{Frame}
use Rattle.ivy_wire.specs.stated.Spelling.{Spells}
use Rattle.ivy_link.specs.stated.Accepted.{offered}
use Rattle.ivy_link.specs.declared.Verdict.{Verdict}
use Rattle.ivy_link.specs.declared.Verdict.TheVariants as verdict
use Rattle.ivy_link.specs.Windows.{first_window, place_at}
use Rattle.ivy_link.specs.Holding.{window_of, after_hold, ready_of, after_taking}
use Rattle.ivy_program.specs.stated.Programs.{Program, fetches_of}
use Rattle.ivy_program.specs.InstructionSteps.{HasEnded}
use Rattle.ivy_program.specs.stated.InstructionSteps.{AsksRow}
use Rattle.ivy_host.specs.declared.opening.Opening.{Opening}
use Rattle.ivy_host.specs.declared.opening.Opening.TheVariants.{Configured}
use Rattle.ivy_host.specs.stated.Managers.{Managed, managed_ops}
use Rattle.ivy_moves.specs.declared.keep.Keep.{Keep}
use Rattle.ivy_moves.specs.declared.keep.Keep.TheVariants.{All}
use Rattle.ivy_moves.specs.Marks.{Turn}
use Rattle.ivy_moves.specs.stated.Cores.{Outcome}
use Rattle.ivy_moves.specs.stated.Nodes.{Node, Effect, posting, turned, delivered}
use Rattle.ivy_moves.specs.Parts.{AllHappen}
use Rattle.ivy_moves.specs.Early.{early_in}
use Rattle.ivy_site.specs.declared.turn.Turn as turn
use Rattle.ivy_site.specs.declared.turn.Turn.TheVariants.{Idle, Moved, Ended}
use Rattle.ivy_link.specs.stated.Linked.{peer_at}
use Rattle.ivy_host.specs.stated.Hosts.{Host, host_rules, turn_of}
use Rattle.ivy_host.specs.stated.Openings.{first_node, managed_start}
use Rattle.ivy_coherence.specs.EventLimits.{most_posted}
use Rattle.ivy_link.specs.stated.LinkLimits.{most_ahead}
use Rattle.ivy_site.specs.SiteView.{SiteView, holding_at, after_event, after_delivery}

-- how many strings one event sends at most: what is posted, and a pulse has no more frames
abbrev pub most_sent : ℕ
most_sent = most_posted

-- and how many a delivery sends with all that a site goes on with, as many for each string
abbrev pub most_delivered : ℕ
most_delivered = most_sent + most_sent * most_ahead

-- nothing was listed or held, and no string waits; the node began so, and these lists are kept
abbrev pub first_opened : Opening → Keep → Config → ℕ → Program → SiteView
first_opened opened keep c me program = record {
  config = c;
  opened = opened;
  me = me;
  node = first_node (managed_start opened) c me program;
  events = [];
  waiting = [];
  held = replicate c.nodes first_window;
  keep = keep;
}

-- so it is by the manager that the configuration names
abbrev pub first_keeping : Keep → Config → ℕ → Program → SiteView
first_keeping = first_opened Configured

-- and where all lists are kept
abbrev pub first_shown : Config → ℕ → Program → SiteView
first_shown = first_keeping All

-- what came to a site too early, told from its events
abbrev pub early_at : SiteView → List (List ℕ)
early_at s = early_in (host_rules managed_ops) s.config
    (first_node (managed_start s.opened) s.config s.me s.node.core.process.program) s.events

-- it is the same node, under the same configuration, which began as it did, and keeps the same lists
abbrev pub IsSameNode : SiteView → SiteView → Type 0
IsSameNode old new = (new.config ≡ old.config) × (new.me ≡ old.me) × (new.keep ≡ old.keep)
    × (new.opened ≡ old.opened)

-- the turn has an outcome: it is the turn of the definitions
pub record SiteTurns (old new : SiteView) : Type 0 where
  pub outcome : Outcome (Host Managed)
  pub turn : turn_of managed_ops old.node.core ≡ Some outcome
  pub effect : Effect (Host Managed)
  pub sent : posting old.node outcome.after outcome.posted ≡ Some effect
  pub after : new ≡ after_event old Turn effect

-- what a turn changes that came to this
abbrev pub AfterTurn : turn.Turn → SiteView → SiteView → Type 0
AfterTurn Idle old new = (turn_of managed_ops old.node.core ≡ None) × (new ≡ old)
AfterTurn Moved old new = SiteTurns old new
AfterTurn Ended old new =
    HasEnded old.node.core.process × (turn_of managed_ops old.node.core ≡ None) × (new ≡ old)

-- the string spells a frame
abbrev pub SpellsFrame : Config → List ℕ → Type 0
SpellsFrame c bytes = (frame : Frame) × Spells c frame bytes

-- the string spells a frame, which is what the verdict says, and the delivery is that of the
-- definitions
pub record SiteDelivers (bytes : List ℕ) (verdict : Verdict) (old new : SiteView) : Type 0 where
  pub frame : Frame
  pub spelled : Spells old.config frame bytes
  pub is : verdict ≡ offered old.node.link frame
  pub effect : Effect (Host Managed)
  pub delivered : delivered (host_rules managed_ops) old.config old.node bytes ≡ Some effect
  pub after : new ≡ after_delivery old bytes verdict frame.source effect

-- the string of a frame is held, where there is a place for it
abbrev pub holding_in : SiteView → Frame → List ℕ → SiteView
holding_in s f bytes = record s { held = (after_hold (holding_at s) f bytes).held }

-- the string that is ready is taken out
abbrev pub without_ready : SiteView → ℕ → SiteView
without_ready s source = record s { held = (after_taking (holding_at s) source).held }

-- the string that is held of the next number from this node, which came too early once, is
-- delivered as the next one
pub record GoesOnOnce (source : ℕ) (bytes : List ℕ) (old new : SiteView) : Type 0 where
  pub ready : ready_of (holding_at old) source ≡ Some bytes
  pub early : Contains (early_at old) bytes
  pub next : SiteDelivers bytes verdict.Next (without_ready old source) new
  pub from : next.frame.source ≡ source

-- one after another
abbrev pub SiteGoesOn : ℕ → List (List ℕ) → SiteView → SiteView → Type 0
SiteGoesOn source [] old new = new ≡ old
SiteGoesOn source (bytes ∷ more) old new =
    (mid : SiteView) × GoesOnOnce source bytes old mid × SiteGoesOn source more mid new

-- so it went on, with any number of strings
abbrev pub SiteWentOn : ℕ → SiteView → SiteView → Type 0
SiteWentOn source old new = (more : List (List ℕ)) × SiteGoesOn source more old new

-- after the delivery of a frame that is the next one the site may go on, and one that came too
-- early is held
abbrev pub FollowsDelivery : Verdict → Frame → List ℕ → SiteView → SiteView → Type 0
FollowsDelivery verdict.NotMine f bytes mid new = new ≡ mid
FollowsDelivery verdict.Next f bytes mid new = SiteWentOn f.source mid new
FollowsDelivery verdict.Repeat f bytes mid new = new ≡ mid
FollowsDelivery verdict.Ahead f bytes mid new = new ≡ holding_in mid f bytes

-- the string is delivered, and then the site goes on, or holds it
pub record AfterDelivery (bytes : List ℕ) (verdict : Verdict) (old new : SiteView) : Type 0 where
  pub mid : SiteView
  pub first : SiteDelivers bytes verdict old mid
  pub follows : FollowsDelivery verdict first.frame bytes mid new

-- none that is held of the node is the next one now, or as many went on as are ever held of one
abbrev pub HasNoneReady : ℕ → List (List ℕ) → SiteView → Type 0
HasNoneReady source more new =
    (ready_of (holding_at new) source ≡ None) ⊎ (length more ≡ most_ahead)

-- the site went on as far as it can; or the next string that it holds was refused with this fault
pub record GoesAsFar (source : ℕ) (refused : Option Fault) (old new : SiteView) : Type 0 where
  pub more : List (List ℕ)
  pub on : SiteGoesOn source more old new
  pub rest : MatchOption refused (HasNoneReady source more new) RanOut

-- the string is delivered, and the site goes on so
abbrev pub DeliversWhole : Verdict → Option Fault → List ℕ → SiteView → SiteView → Type 0
DeliversWhole verdict.Next refused bytes old new = (d : AfterDelivery bytes verdict.Next old new)
    × MatchOption refused (HasNoneReady d.first.frame.source d.follows.0 new) RanOut
DeliversWhole verdict.NotMine refused bytes old new =
    AfterDelivery bytes verdict.NotMine old new × (refused ≡ None)
DeliversWhole verdict.Repeat refused bytes old new =
    AfterDelivery bytes verdict.Repeat old new × (refused ≡ None)
DeliversWhole verdict.Ahead refused bytes old new =
    AfterDelivery bytes verdict.Ahead old new × (refused ≡ None)

-- where the fault is that message numbers are at an end, the turn is no event
abbrev pub IsSpentTurn : SiteView → Fault → Type 0
IsSpentTurn old fault = fault ≡ NumbersSpent → turned (host_rules managed_ops) old.node ≡ None

-- where the fault is that message numbers are at an end, the delivery is no event
abbrev pub IsSpentDelivery : SiteView → List ℕ → Fault → Type 0
IsSpentDelivery old bytes fault =
    fault ≡ NumbersSpent → delivered (host_rules managed_ops) old.config old.node bytes ≡ None

-- the node is what its events make of the first one of its program, and the strings that wait are
-- the last of those that the events sent
pub record IsMadeByEvents (s : SiteView) : Type 0 where
  pub effect : Effect (Host Managed)
  pub happen : AllHappen (host_rules managed_ops) s.config
      (first_node (managed_start s.opened) s.config s.me s.node.core.process.program) s.events effect
  pub node : s.node ≡ effect.after
  pub taken : List (List ℕ)
  pub waits : effect.sent ≡ taken ++ s.waiting

-- the site's events send the string
pub record IsSentBy (s : SiteView) (bytes : List ℕ) : Type 0 where
  pub made : IsMadeByEvents s
  pub sent : Contains made.effect.sent bytes

-- a string that is held in this place of a node's window came too early, and spells the frame of
-- that number from the node to this one
pub record IsHeld (s : SiteView) (from place : ℕ) (bytes : List ℕ) : Type 0 where
  pub early : Contains (early_at s) bytes
  pub frame : Frame
  pub spelled : Spells s.config frame bytes
  pub source : frame.source ≡ from
  pub dest : frame.dest ≡ s.node.link.me
  pub number : frame.number ≡ (peer_at s.node.link from).delivered + place + 1

-- each string that is held came too early, and is held in its place
abbrev pub HoldsEarly : SiteView → Type 0
HoldsEarly s = (source place : ℕ) (bytes : List ℕ)
    → place_at (window_of s.held source) place ≡ Some bytes → IsHeld s source place bytes

-- each page that its program has fetched is used up, so that none is due
abbrev pub AreUsed : Host Managed → Type 0
AreUsed h = h.used ≡ length (fetches_of h.process.program)

-- what holds of a site, beside what its parts keep
pub record IsSite (s : SiteView) : Type 0 where
  pub config : s.node.core.memory.coherence.config ≡ s.config
  pub me : s.node.core.memory.coherence.me ≡ s.me
  pub asking : (call : Call) → s.node.core.memory.asked ≡ Some call
      → AsksRow s.node.core.process (call ∷ s.node.core.memory.along)
  pub made : IsMadeByEvents s
  pub held : HoldsEarly s
  pub fetched : AreUsed s.node.core

-- the first string that waits is taken, if there is one, and nothing else changes
abbrev pub TakesFrame : Option (List ℕ) → SiteView → SiteView → Type 0
TakesFrame None old new = (old.waiting ≡ []) × (new ≡ old)
TakesFrame (Some bytes) old new =
    (old.waiting ≡ bytes ∷ new.waiting) × (new ≡ record old { waiting = new.waiting })

-- the string spells a frame to this site whose message was not delivered here yet
pub record Awaits (s : SiteView) (bytes : List ℕ) : Type 0 where
  pub frame : Frame
  pub spelled : Spells s.config frame bytes
  pub dest : frame.dest ≡ s.me
  pub later : (peer_at s.node.link frame.source).delivered < frame.number

-- the number of the count that a call in progress awaits, and the least value that it awaits
abbrev pub await_in : Option Call → Option (ℕ × ℕ)
await_in None = None
await_in (Some (Await k least)) = Some (k, least)
await_in (Some call) = None
