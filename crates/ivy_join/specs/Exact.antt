-- What happens while logs are joined, exactly: an event that is not made is none that its node can
-- make.
use Rattle.std.specs.Prelude.{◌≡◌, ◌≢◌, ℕ, ◌+◌, ◌-◌, ◌<◌, ◌≤◌, Bool, true, false, IsTrue, List, [], ◌∷◌, ◌++◌, length, take, drop, slice_get, Some, Contains}
use Rattle.ivy_model.specs.declared.Config.{Config}
use Rattle.ivy_model.specs.stated.Config.{IsConfig}
use Rattle.ivy_logs.specs.declared.log.LogEntry.TheVariants.{Did, Asked, Answered, Fetched}
use Rattle.ivy_logs.specs.Entries.{LogEntry, event_in, events_in}
use Rattle.ivy_moves.specs.Marks.{Mark, Turn, Delivery, Pulse, marks, marks_of}
use Rattle.ivy_moves.specs.stated.Nodes.{Node, Effect}
use Rattle.ivy_moves.specs.Parts.{AllHappen}
use Rattle.ivy_program.specs.stated.Programs.{Program}
use Rattle.ivy_host.specs.stated.Hosts.{Host, host_rules}
use Rattle.ivy_host.specs.stated.Managers.{Managed, managed_ops}
use Rattle.ivy_host.specs.declared.opening.Opening.{Opening}
use Rattle.ivy_host.specs.stated.Openings.{first_node, managed_start}
use Rattle.ivy_site.specs.SiteView.{SiteView}
use Rattle.ivy_join.specs.declared.replay_log.Outcome.{Outcome}
use Rattle.ivy_join.specs.declared.replay_log.Outcome.TheVariants.{Made, Waits, Never}
use Rattle.ivy_join.specs.ReplaySites.{events_at, Sends}
use Rattle.ivy_join.specs.Remade.{CanTake}

-- a pulse of node i goes to another one of so many nodes
abbrev pub IsToOther : ℕ → ℕ → Mark → Type 0
IsToOther nodes i Turn = Unit {0}
IsToOther nodes i (Delivery bytes) = Unit {0}
IsToOther nodes i (Pulse to) = (to < nodes) × (i ≢ to)

abbrev pub AreToOthers : ℕ → ℕ → List Mark → Type 0
AreToOthers nodes i [] = Unit {0}
AreToOthers nodes i (m ∷ ms) = IsToOther nodes i m × AreToOthers nodes i ms

-- node i can't make these events, one after another: that is so of a pulse to itself, or to no node
abbrev pub NeverHappen : Config → ℕ → Node (Host Managed) → List Mark → Type 0
NeverHappen c i n events = AreToOthers c.nodes i events → (effect : Effect (Host Managed))
    → AllHappen (host_rules managed_ops) c n events effect → ⊥

-- the site made these events, and what they send waits behind what waited
pub record Makes (events : List Mark) (old new : SiteView) : Type 0 where
  pub effect : Effect (Host Managed)
  pub happen : AllHappen (host_rules managed_ops) old.config old.node events effect
  pub node : new.node ≡ effect.after
  pub waiting : new.waiting ≡ old.waiting ++ effect.sent

-- so it did; or it can't make them, where no string waited
abbrev pub SaysMade : List Mark → SiteView → SiteView → Bool → Type 0
SaysMade events old new true = IsConfig old.config → Makes events old new
SaysMade events old new false = IsConfig old.config → old.waiting ≡ []
    → NeverHappen old.config old.me old.node events

-- all that the site's events sent is among these strings, and none waits
pub record HasSent (sent : List (List ℕ)) (s : SiteView) : Type 0 where
  pub none : s.waiting ≡ []
  pub all : (bytes : List ℕ) → Sends s bytes → Contains sent bytes

-- so it is for each of the sites
abbrev pub HaveSent : List (List ℕ) → List SiteView → Type 0
HaveSent sent sites = (i : ℕ) (s : SiteView) → slice_get sites i ≡ Some s → HasSent sent s

-- the site in this place made these events, and the others none; what it sent is among the strings
pub record IsMadeAt (node : ℕ) (ms : List Mark) (old new : List SiteView) (sent : List (List ℕ)) : Type 0
  where
    pub have : HaveSent sent new
    pub here : events_at new node ≡ events_at old node ++ ms
    pub elsewhere : (i : ℕ) → i ≢ node → events_at new i ≡ events_at old i

-- the site in this place can't make these events
abbrev pub IsNeverAt : ℕ → List Mark → List SiteView → Type 0
IsNeverAt node ms sites = (s : SiteView) → slice_get sites node ≡ Some s
    → NeverHappen s.config s.me s.node ms

-- nor the event of the entry; of a call that is not made, or of a page that is not fetched, nothing
-- is said, and an answer is always passed over
abbrev pub IsNeverBy : ℕ → LogEntry → List SiteView → Type 0
IsNeverBy node (Did event) sites = IsNeverAt node (marks_of event) sites
IsNeverBy node (Asked call) sites = Unit {0}
IsNeverBy node (Answered answer) sites = ⊥
IsNeverBy node (Fetched page write) sites = Unit {0}

-- the string that the entry delivers is none of these, and all is as it was
pub record IsWaiting (entry : LogEntry) (old new : List SiteView) (sent sent' : List (List ℕ)) : Type 0
  where
    pub unsent : CanTake sent entry → ⊥
    pub sites : new ≡ old
    pub strings : sent' ≡ sent

-- what became of the entry
abbrev pub CameTo : ℕ → LogEntry → List SiteView → List SiteView → List (List ℕ) → List (List ℕ)
    → Outcome → Type 0
CameTo node entry old new sent sent' Made = IsMadeAt node (marks (event_in entry)) old new sent'
CameTo node entry old new sent sent' Waits = IsWaiting entry old new sent sent'
CameTo node entry old new sent sent' Never = IsNeverBy node entry old

-- so many entries of the log were made, and these are their events
pub record IsMadeTo (log : List LogEntry) (made : ℕ) (events : List Mark) : Type 0 where
  pub few : made ≤ length log
  pub are : events ≡ marks (events_in (take made log))

-- so it is of each log, at the site of its place
abbrev pub AreMadeTo : List (List LogEntry) → List ℕ → List SiteView → Type 0
AreMadeTo logs made sites = (i : ℕ) (log : List LogEntry) (m : ℕ) → slice_get logs i ≡ Some log
    → slice_get made i ≡ Some m → IsMadeTo log m (events_at sites i)

-- nothing is left of the log, or its next entry delivers a string that is none of these
abbrev pub IsStuck : List (List ℕ) → List LogEntry → Type 0
IsStuck sent [] = Unit {0}
IsStuck sent (entry ∷ rest) = CanTake sent entry → ⊥

-- so it is of each log behind what was made of it
abbrev pub AreStuck : List (List ℕ) → List (List LogEntry) → List ℕ → Type 0
AreStuck sent logs made = (i : ℕ) (log : List LogEntry) (m : ℕ) → slice_get logs i ≡ Some log
    → slice_get made i ≡ Some m → IsStuck sent (drop m log)

-- how many entries of the logs are not made yet
abbrev pub left_of : List (List LogEntry) → List ℕ → ℕ
left_of [] made = 0
left_of (log ∷ logs) [] = 0
left_of (log ∷ logs) (m ∷ made) = (length log - m) + left_of logs made

-- a node's log was gone on with; where it was not, it is stuck, and all is as it was
pub record PlaysTo (node : ℕ) (log : List LogEntry) (made made' : ℕ) (old new : List SiteView)
    (sent sent' : List (List ℕ)) (went : Bool) : Type 0 where
  pub have : HaveSent sent' new
  pub here : IsMadeTo log made' (events_at new node)
  pub elsewhere : (i : ℕ) → i ≢ node → events_at new i ≡ events_at old i
  pub more : IsTrue went → made < made'
  pub sites : went ≡ false → new ≡ old
  pub strings : went ≡ false → sent' ≡ sent
  pub place : went ≡ false → made' ≡ made
  pub stuck : went ≡ false → IsStuck sent (drop made log)

-- each log was gone on with; where none was, all are stuck
pub record PlaysAll (logs : List (List LogEntry)) (made made' : List ℕ) (new : List SiteView)
    (sent' : List (List ℕ)) (went : Bool) : Type 0 where
  pub have : HaveSent sent' new
  pub each : AreMadeTo logs made' new
  pub less : IsTrue went → left_of logs made' < left_of logs made
  pub stuck : went ≡ false → AreStuck sent' logs made'

-- each log was made to its end
abbrev pub AreAllMade : List (List LogEntry) → List ℕ → Type 0
AreAllMade logs made = (i : ℕ) (log : List LogEntry) (m : ℕ) → slice_get logs i ≡ Some log
    → slice_get made i ≡ Some m → length log ≤ m

-- one of them was not
pub record IsOneLeft (logs : List (List LogEntry)) (made : List ℕ) : Type 0 where
  pub node : ℕ
  pub log : List LogEntry
  pub there : slice_get logs node ≡ Some log
  pub made_of : ℕ
  pub was : slice_get made node ≡ Some made_of
  pub left : made_of < length log

-- node i of these programs can't make these events, whatever the other nodes do
abbrev pub IsNoPart : Config → Opening → List Program → ℕ → List Mark → Type 0
IsNoPart c o programs i events = (program : Program) → slice_get programs i ≡ Some program
    → NeverHappen c i (first_node (managed_start o) c i program) events
