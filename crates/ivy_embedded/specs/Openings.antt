-- What the numbers that a node is opened with name, and why one is not opened.
use Rattle.std.specs.Prelude.{◌≡◌, ◌≢◌, ◌⊎◌, ℕ, ◌<◌, ◌≤◌, Option, None, Some}
use Rattle.ivy_model.specs.declared.Config.{Config}
use Rattle.ivy_model.specs.declared.Kind.{Kind}
use Rattle.ivy_model.specs.declared.Kind.TheVariants.{Fixed, Dynamic}
use Rattle.ivy_model.specs.stated.Config.{IsConfig}
use Rattle.ivy_host.specs.declared.opening.Opening.{Opening}
use Rattle.ivy_host.specs.declared.opening.Opening.TheVariants.{Configured, Steady}
use Rattle.ivy_embedded.specs.Nodes.{Embedded, opened_embedded}
use Rattle.ivy_embedded.specs.declared.status.TheConstants.{MEMORY, BAD_CONFIG, BAD_ARGUMENT, OPEN, FIXED, DYNAMIC, STEADY}

-- the number names the kind of manager
abbrev pub IsManager : ℕ → Kind → Type 0
IsManager number Fixed = number ≡ FIXED
IsManager number Dynamic = number ≡ DYNAMIC

-- it names none
abbrev pub IsNoManager : ℕ → Type 0
IsNoManager number = (kind : Kind) → IsManager number kind → ⊥

-- the numbers are those of the configuration
abbrev pub IsConfigOf : ℕ → ℕ → ℕ → ℕ → Config → Type 0
IsConfigOf nodes pages page_size manager c = (c.nodes ≡ nodes) × (c.pages ≡ pages)
    × (c.page_size ≡ page_size) × IsManager manager c.manager

-- and it is within the wide limits
pub record Names (nodes pages page_size manager : ℕ) (c : Config) : Type 0 where
  pub numbers : IsConfigOf nodes pages page_size manager c
  pub limits : IsConfig c

-- no configuration within these limits has the numbers
abbrev pub NamesNone : ℕ → ℕ → ℕ → ℕ → Type 0
NamesNone nodes pages page_size manager =
    (c : Config) → Names nodes pages page_size manager c → ⊥

-- the configuration is out of its limits, and not for want of such a manager
pub record IsOutOfLimits (nodes pages page_size manager : ℕ) : Type 0 where
  pub kind : Kind
  pub named : IsManager manager kind
  pub none : NamesNone nodes pages page_size manager

-- the configuration has no such node, or there is no memory for this one
pub record RefusesNode (nodes pages page_size manager me status : ℕ) : Type 0 where
  pub config : Config
  pub names : Names nodes pages page_size manager config
  pub why : ((status ≡ BAD_ARGUMENT) × (config.nodes ≤ me)) ⊎ ((status ≡ MEMORY) × (me < config.nodes))

-- why no node is opened in a handle: it has one already; there is no such manager; the configuration
-- is out of its limits; or it has no such node, or no memory
abbrev pub RefusesOpening : ℕ → ℕ → ℕ → ℕ → ℕ → ℕ → Option Embedded → Type 0
RefusesOpening nodes pages page_size manager me status (Some s) = status ≡ OPEN
RefusesOpening nodes pages page_size manager me status None =
    ((status ≡ BAD_ARGUMENT) × IsNoManager manager)
    ⊎ ((status ≡ BAD_CONFIG) × IsOutOfLimits nodes pages page_size manager)
    ⊎ RefusesNode nodes pages page_size manager me status

-- the number names the manager with which a node begins: steady hints, under a configuration that
-- names hints; or any other number, by which the configuration names it
abbrev pub OpensBy : ℕ → Opening → ℕ → Type 0
OpensBy manager Configured named = (manager ≢ STEADY) × (named ≡ manager)
OpensBy manager Steady named = (manager ≡ STEADY) × (named ≡ DYNAMIC)

-- why no node is opened by this manager: as under the configuration
pub record RefusesOpeningBy (nodes pages page_size manager me status : ℕ) (held : Option Embedded)
    : Type 0 where
  pub opening : Opening
  pub named : ℕ
  pub opens : OpensBy manager opening named
  pub why : RefusesOpening nodes pages page_size named me status held

-- the handle had no node, and has this one, which begins by this manager
pub record IsOpenedBy (nodes pages page_size manager me : ℕ) (old new : Option Embedded)
    : Type 0 where
  pub opening : Opening
  pub named : ℕ
  pub opens : OpensBy manager opening named
  pub config : Config
  pub names : Names nodes pages page_size named config
  pub here : me < config.nodes
  pub none : old ≡ None
  pub held : new ≡ Some (opened_embedded opening config me)
