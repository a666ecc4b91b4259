-- What contracts see of a seated site: its ether, the site and its pass; and what holds of them.
use Rattle.std.specs.Prelude.{◌≡◌, ℕ, false, List, [], ◌++◌, length, slice_get, Some, Contains}
use Rattle.atomic_table.specs.Seated.{TableId}
use Rattle.ivy_model.specs.declared.Config.{Config}
use Rattle.ivy_model.specs.stated.Config.{IsConfig}
use Rattle.ivy_program.specs.stated.Programs.{Program}
use Rattle.ivy_moves.specs.Marks.{Mark}
use Rattle.ivy_moves.specs.Parts.{AllCanBeMade, AreParts}
use Rattle.ivy_moves.specs.stated.Worlds.{World}
use Rattle.ivy_host.specs.declared.opening.Opening.{Opening}
use Rattle.ivy_host.specs.stated.Hosts.{Host, host_rules}
use Rattle.ivy_host.specs.stated.Managers.{Managed, managed_ops}
use Rattle.ivy_ether.specs.Handings.{Handing, with_all}
use Rattle.ivy_ether.specs.Programs.{beginning, all_handed}
use Rattle.ivy_site.specs.SiteView.{SiteView}
use Rattle.ivy_site.specs.Sites.{first_opened, IsMadeByEvents}
use Rattle.ivy_ether.specs.Held.{Held}
use Rattle.ivy_ether.specs.Views.{newcomer, with_seat}

pub record SeatedState : Type 0 where
  pub ether : TableId
  pub site : SiteView
  pub pass : Held

-- the site's list goes on from what the pass gave, by deliveries of strings that the pass took
pub record HasGiven (nodes : ℕ) (s : SiteView) (p : Held) : Type 0 where
  pub more : List Mark
  pub is : s.events ≡ p.known.events ++ more
  pub can : AllCanBeMade p.known.took nodes s.me more

-- the name of no ether
abbrev pub no_ether : TableId
no_ether =
    record { words = 0; slots = 0; views_name = 0; atom = 0; block = 0; offset = 0; slot_names = [] }

-- the site runs its node's program, where these were handed to it
pub record RunsProgram (programs : List Program) (s : SiteView) (handings : List Handing) : Type 0
  where
    pub first : Program
    pub there : slice_get programs s.me ≡ Some first
    pub is : s.node.core.process.program ≡ with_all handings first

-- the pass is of this ether, sits at the site's node and has not reported, and took each string
-- that was delivered to the site; the site runs the node's program
pub record IsSeated (wire : TableId) (c : Config) (opened : Opening) (programs : List Program)
    (s : SiteView) (p : Held) : Type 0 where
  pub limits : IsConfig c
  pub each : length programs ≡ c.nodes
  pub ether : p.ether ≡ wire
  pub node : p.known.node ≡ Some s.me
  pub unreported : p.known.reported ≡ false
  pub config : s.config ≡ c
  pub began : s.opened ≡ opened
  pub program : RunsProgram programs s p.known.handed
  pub given : HasGiven (length programs) s p
  pub took : AllCanBeMade p.known.took (length programs) s.me s.events

-- what holds of a seated site at every moment: also that the node is what the site's events make of
-- the first one of its program, and that they sent the strings that wait
pub record KeepsSeat (c : Config) (opened : Opening) (programs : List Program)
    (s : SeatedState) : Type 0
  where
    pub seated : IsSeated s.ether c opened programs s.site s.pass
    pub made : IsMadeByEvents s.site

-- what holds of it among all nodes: some run of the programs, where some calls, and pages to fetch
-- ahead, were handed to each node and to the site's those that its pass knows of, has exactly the
-- site's events as its part, and ends with this very node; in it each string that the pass took was
-- sent, and each that waits to be put
pub record IsInRun (c : Config) (opened : Opening) (programs : List Program)
    (s : SeatedState) : Type 0
  where
    pub handings : ℕ → List Handing
    pub parts : ℕ → List Mark
    pub end : World (Host Managed)
    pub run : AreParts (host_rules managed_ops) c
        (beginning c opened (all_handed handings programs)) parts end
    pub handed : handings s.site.me ≡ s.pass.known.handed
    pub own : parts s.site.me ≡ s.site.events
    pub node : slice_get end.nodes s.site.me ≡ Some s.site.node
    pub took : (bytes : List ℕ) → Contains s.pass.known.took bytes → Contains end.sent bytes
    pub waits : (bytes : List ℕ) → Contains s.site.waiting bytes → Contains end.sent bytes

-- this site, with this pass, at this ether
abbrev pub place : TableId → SiteView → Held → SeatedState
place e s p = record { ether = e; site = s; pass = p }

-- a site of the node's program as it begins, whatever it keeps, and a pass of this ether that took the node's seat
pub record IsFreshSeat (wire : TableId) (c : Config) (opened : Opening) (programs : List Program)
    (s : SiteView) (p : Held) : Type 0 where
  pub limits : IsConfig c
  pub each : length programs ≡ c.nodes
  pub ether : p.ether ≡ wire
  pub pass : p.known ≡ with_seat newcomer s.me
  pub program : Program
  pub there : slice_get programs s.me ≡ Some program
  pub site : s ≡ first_opened opened s.keep c s.me program
