-- Sites that make the events of logs again, while they are joined.
use Rattle.std.specs.Prelude.{◌≡◌, ◌⊎◌, ℕ, ◌+◌, List, [], ◌∷◌, ◌++◌, length, slice_get, Option, Some, None, Contains, flat_map}
use Rattle.ivy_model.specs.declared.Config.{Config}
use Rattle.ivy_model.specs.declared.Record.{Record}
use Rattle.ivy_model.specs.stated.Config.{IsConfig}
use Rattle.ivy_moves.specs.Events.{Event}
use Rattle.ivy_moves.specs.declared.Event.TheVariants.{Turns, Delivered, Pulsed}
use Rattle.ivy_moves.specs.Marks.{Mark}
use Rattle.ivy_moves.specs.stated.Nodes.{Effect}
use Rattle.ivy_moves.specs.Parts.{AllHappen, AllCanBeMade, AreParts}
use Rattle.ivy_moves.specs.stated.Worlds.{World}
use Rattle.ivy_host.specs.stated.Hosts.{Host, host_rules}
use Rattle.ivy_host.specs.stated.Managers.{Managed, managed_ops}
use Rattle.ivy_host.specs.declared.opening.Opening.{Opening}
use Rattle.ivy_host.specs.stated.Openings.{first_node, managed_start, opening}
use Rattle.ivy_site.specs.SiteView.{SiteView}
use Rattle.ivy_moves.specs.declared.keep.Keep.{Keep}
use Rattle.ivy_site.specs.Sites.{first_opened, IsMadeByEvents}
use Rattle.ivy_world.specs.WorldSites.{programs_of}
use Rattle.ivy_program.specs.stated.Programs.{Program}

-- the sites of the programs as they begin so, of which each keeps these lists
abbrev pub kept_from : Opening → Keep → Config → ℕ → List Program → List SiteView
kept_from o keep c me [] = []
kept_from o keep c me (p ∷ ps) = first_opened o keep c me p ∷ kept_from o keep c (me + 1) ps

-- the program of a site
abbrev pub program_in : SiteView → Program
program_in s = s.node.core.process.program

-- the events of the site in this place; none where there is no site
abbrev pub listed : Option SiteView → List Mark
listed None = []
listed (Some s) = s.events

abbrev pub events_at : List SiteView → ℕ → List Mark
events_at sites i = listed (slice_get sites i)

-- a string that the event delivers is one of these
abbrev pub CanBeTaken : List (List ℕ) → Event → Type 0
CanBeTaken sent (Turns count) = Unit {0}
CanBeTaken sent (Delivered bytes) = Contains sent bytes
CanBeTaken sent (Pulsed to) = Unit {0}

-- the strings that the events deliver
abbrev pub taken_in : Event → List (List ℕ)
taken_in (Turns count) = []
taken_in (Delivered bytes) = bytes ∷ []
taken_in (Pulsed to) = []

abbrev pub taken_by : List Event → List (List ℕ)
taken_by events = flat_map taken_in events

-- what was answered stands first, and there may be more
abbrev pub AddsRecords : List Record → List Record → Type 0
AddsRecords old new = (more : List Record) × (new ≡ old ++ more)

-- the site went on by further events, which deliver none but these strings, and pulse to other nodes
pub record GoesOnBy (sent : List (List ℕ)) (old new : SiteView) : Type 0 where
  pub me : new.me ≡ old.me
  pub config : new.config ≡ old.config
  pub program : program_in new ≡ program_in old
  pub keep : new.keep ≡ old.keep
  pub opened : new.opened ≡ old.opened
  pub answered : AddsRecords old.node.core.history new.node.core.history
  pub more : List Mark
  pub events : new.events ≡ old.events ++ more
  pub can : AllCanBeMade sent old.config.nodes old.me more

-- whatever strings those are: where what was delivered to the site before is among them, and what the
-- event delivers, it went on so
abbrev pub CanGoOnBy : Event → SiteView → SiteView → Type 0
CanGoOnBy event old new = (sent : List (List ℕ)) → IsConfig old.config
    → AllCanBeMade sent old.config.nodes old.me old.events → CanBeTaken sent event
    → GoesOnBy sent old new

-- the string is added, or none is
abbrev pub AddsOne : List ℕ → List (List ℕ) → List (List ℕ) → Type 0
AddsOne bytes old new = (new ≡ old) ⊎ (new ≡ old ++ bytes ∷ [])

-- the site's events send the string
abbrev pub Sends : SiteView → List ℕ → Type 0
Sends s bytes = (effect : Effect (Host Managed))
    × AllHappen (host_rules managed_ops) s.config
    (first_node (managed_start s.opened) s.config s.me (program_in s)) s.events effect
    × Contains effect.sent bytes

-- each of the strings after is one of those before, or the site's events send it
abbrev pub AddsSent : SiteView → List (List ℕ) → List (List ℕ) → Type 0
AddsSent s old new = (bytes : List ℕ) → Contains new bytes → Contains old bytes ⊎ Sends s bytes

module _ (c : Config) (o : Opening) where
  -- the site is this node, and what its events make of it; each string that it was given is one of these
  pub record IsNode (sent : List (List ℕ)) (i : ℕ) (s : SiteView) : Type 0 where
    pub config : s.config ≡ c
    pub me : s.me ≡ i
    pub opened : s.opened ≡ o
    pub made : IsMadeByEvents s
    pub took : AllCanBeMade sent c.nodes i s.events

  -- the event lists of the sites are the parts of one run of their programs, in which each of the
  -- strings was sent
  pub record ArePlayed (sites : List SiteView) (sent : List (List ℕ)) : Type 0 where
    pub limits : IsConfig c
    pub count : length sites ≡ c.nodes
    pub each : (i : ℕ) (s : SiteView) → slice_get sites i ≡ Some s → IsNode sent i s
    pub end : World (Host Managed)
    pub run : AreParts (host_rules managed_ops) c (opening (managed_start o) c (programs_of sites))
        (events_at sites) end
    pub all_sent : (bytes : List ℕ) → Contains sent bytes → Contains end.sent bytes
