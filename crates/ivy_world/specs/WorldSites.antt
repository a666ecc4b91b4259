-- What holds of the sites of a world.
use Rattle.std.specs.Prelude.{◌≡◌, ◌⊎◌, ℕ, ◌+◌, List, [], ◌∷◌, ◌++◌, length, map, set, slice_get, Some}
use Rattle.ivy_model.specs.declared.Call.{Call}
use Rattle.ivy_model.specs.declared.Fault.{Fault}
use Rattle.ivy_model.specs.declared.Fault.TheVariants.{Memory, BadConfig}
use Rattle.ivy_site.specs.Handed.{site_handed}
use Rattle.ivy_site.specs.Sites.{first_opened, early_at, IsMadeByEvents, IsSpentTurn}
use Rattle.ivy_model.specs.declared.Config.{Config}
use Rattle.ivy_model.specs.stated.Config.{IsConfig}
use Rattle.ivy_model.specs.Wants.{RanOut}
use Rattle.ivy_host.specs.declared.opening.Opening.{Opening}
use Rattle.ivy_host.specs.stated.Managers.{Managed, managed_ops}
use Rattle.ivy_program.specs.stated.Programs.{Program}
use Rattle.ivy_moves.specs.declared.keep.Keep.TheVariants.{History}
use Rattle.ivy_moves.specs.declared.Move.{Move}
use Rattle.ivy_moves.specs.stated.Worlds as worlds
use Rattle.ivy_host.specs.stated.Hosts.{Host, host_rules}
use Rattle.ivy_site.specs.Calls.{BeginsRow}
use Rattle.ivy_site.specs.SiteView.{SiteView}
use Rattle.proof_worlds.specs.stated.RunState.{Run}
use Rattle.proof_worlds.specs.stated.Reached.{IsReached}

-- the programs of the sites, in order
abbrev pub programs_of : List SiteView → List Program
programs_of sites = map (λ (s : SiteView). s.node.core.process.program) sites

-- the world that these sites are, in which these strings were sent
abbrev pub world_of : List SiteView → List (List ℕ) → worlds.World (Host Managed)
world_of sites sent = record {
  nodes = map (λ (s : SiteView). s.node) sites;
  sent = sent;
  early = map early_at sites;
}

-- each site is the node of its place, under this configuration, made by its events; it keeps its
-- history, and no string waits at it
pub record AreSites (c : Config) (sites : List SiteView) : Type 0 where
  pub config : (i : ℕ) (s : SiteView) → slice_get sites i ≡ Some s → s.config ≡ c
  pub me : (i : ℕ) (s : SiteView) → slice_get sites i ≡ Some s → s.me ≡ i
  pub keep : (i : ℕ) (s : SiteView) → slice_get sites i ≡ Some s → s.keep ≡ History
  pub none_waits : (i : ℕ) (s : SiteView) → slice_get sites i ≡ Some s → s.waiting ≡ []
  pub made : (i : ℕ) (s : SiteView) → slice_get sites i ≡ Some s → IsMadeByEvents s

-- sites and strings after a move: they are those of the world that it makes, of the same programs
pub record AfterMove (c : Config) (sites sites' : List SiteView) (sent sent' : List (List ℕ))
    (step : Move) : Type 0 where
  pub made : worlds.Moves (host_rules managed_ops) c (world_of sites sent) step
      (world_of sites' sent')
  pub are : AreSites c sites'
  pub programs : programs_of sites' ≡ programs_of sites

-- the sites of the programs as they begin, from this number on
abbrev pub first_sites_from : Opening → Config → ℕ → List Program → List SiteView
first_sites_from opened c me [] = []
first_sites_from opened c me (p ∷ ps) =
    first_opened opened History c me p ∷ first_sites_from opened c (me + 1) ps

-- that world, under this configuration and this opening, with its programs
abbrev pub run_of : Config → Opening → List SiteView → List (List ℕ) → Run
run_of c opened sites sent = record {
  config = c;
  opened = opened;
  programs = programs_of sites;
  world = world_of sites sent;
}

-- the sites are those of a world that some moves led to from its opening
pub record IsRunning (c : Config) (opened : Opening) (sites : List SiteView)
    (sent : List (List ℕ)) : Type 0 where
  pub limits : IsConfig c
  pub count : length sites ≡ c.nodes
  pub nodes : AreSites c sites
  pub reached : IsReached (run_of c opened sites sent)

-- the sites of the programs as they begin, and no string waits
abbrev pub AreFirst : Opening → Config → List Program → List SiteView → Type 0
AreFirst opened c programs sites = sites ≡ first_sites_from opened c 0 programs

-- own code at the site in this place makes these calls together and has a turn, if there are any,
-- and the strings that wait there then are put on the wire
pub record HaveBegun (place : ℕ) (calls : List Call) (sites : List SiteView) (sent : List (List ℕ))
    (sites' : List SiteView) (sent' : List (List ℕ)) : Type 0 where
  pub old : SiteView
  pub there : slice_get sites place ≡ Some old
  pub done : SiteView
  pub begins : BeginsRow calls old done
  pub changed : sites' ≡ set sites place (record done { waiting = [] })
  pub more : sent' ≡ sent ++ done.waiting

-- why own code at the site did not begin these calls together: memory ran out, or the turn in which
-- the first begins is no event, as it needs a number above the greatest one; of none, memory alone
abbrev pub IsRefusedRow : List Call → SiteView → Fault → Type 0
IsRefusedRow [] s fault = fault ≡ Memory
IsRefusedRow (call ∷ more) s fault =
    RanOut fault × IsSpentTurn (site_handed ((call ∷ more) ∷ []) s) fault

-- no other fault than want of memory
abbrev pub IsMemory : Fault → Type 0
IsMemory fault = fault ≡ Memory

-- only memory, or that the configuration does not suit
abbrev pub IsWorldWant : Fault → Type 0
IsWorldWant fault = (fault ≡ Memory) ⊎ (fault ≡ BadConfig)
