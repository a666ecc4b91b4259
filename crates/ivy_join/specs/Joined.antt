-- What logs come to that are the parts of one run.
use Rattle.std.specs.Prelude.{◌≡◌, ◌≢◌, ◌<◌, ◌⊎◌, ℕ, ◌+◌, Bool, true, false, List, [], ◌∷◌, length, slice_get, Option, Some, None, IfSome}
use Rattle.ivy_model.specs.declared.Config.{Config}
use Rattle.ivy_logs.specs.declared.log.LogHead.{LogHead}
use Rattle.ivy_moves.specs.Marks.{Mark}
use Rattle.ivy_moves.specs.Parts.{AreParts}
use Rattle.ivy_moves.specs.stated.Worlds.{World}
use Rattle.ivy_host.specs.stated.Hosts.{Host, host_rules}
use Rattle.ivy_host.specs.stated.Managers.{Managed, managed_ops}
use Rattle.ivy_host.specs.declared.opening.Opening.{Opening}
use Rattle.ivy_host.specs.declared.opening.Opening.TheVariants.{Configured, Steady}
use Rattle.ivy_host.specs.stated.Openings.{managed_start, opening}
use Rattle.ivy_site.specs.SiteView.{SiteView}
use Rattle.proof_worlds.specs.stated.Keeping.{Keeps}
use Rattle.proof_worlds.specs.stated.RunState.{Run}
use Rattle.ivy_program.specs.stated.Programs.{Program}
use Rattle.ivy_join.specs.declared.failure.Unjoined.{Unjoined}
use Rattle.ivy_join.specs.declared.failure.Unjoined.TheVariants.{Missing, Twice, Differs, OtherRun, NotSent, NoSuchEvent, OtherAnswers}

-- the events of node i, by the lists of all nodes
abbrev pub list_of : Option (List Mark) → List Mark
list_of None = []
list_of (Some events) = events

abbrev pub part_in : List (List Mark) → ℕ → List Mark
part_in lists i = list_of (slice_get lists i)

-- how nodes began: with steady hints, or with the manager of their configuration
abbrev pub opening_by : Bool → Opening
opening_by true = Steady
opening_by false = Configured

-- each log names this configuration and the node of its place, counted from here; and its node began
-- with steady hints, or with the manager of the configuration
abbrev pub AreHeads : Bool → Config → ℕ → List LogHead → Type 0
AreHeads steady c i [] = Unit {0}
AreHeads steady c i (h ∷ hs) =
    (h ≡ record { me = i; config = c; steady = steady }) × AreHeads steady c (i + 1) hs

-- what an error says of one log, in the place of this node: it is of a later node, or of one before, or of this
-- one under another configuration or another manager
abbrev pub SaysOfHead : Bool → Config → ℕ → LogHead → Unjoined → Type 0
SaysOfHead steady c node h (Missing n) = (n ≡ node) × (node < h.me)
SaysOfHead steady c node h (Twice n) = (n ≡ h.me) × (h.me < node)
SaysOfHead steady c node h (Differs n) =
    (n ≡ node) × (h.me ≡ node) × ((h.steady ≢ steady) ⊎ (h.config ≢ c))
SaysOfHead steady c node h why = ⊥

-- or of how many logs there are: too few, so that there is none of this node, or too many
abbrev pub SaysOfCount : Config → ℕ → Unjoined → Type 0
SaysOfCount c count (Missing n) = (n ≡ count) × (count < c.nodes)
SaysOfCount c count (Twice n) = (n ≡ count) × (c.nodes < count)
SaysOfCount c count why = ⊥

-- so it is of one of the logs in its place, or of how many there are
abbrev pub SaysOfHeads : Bool → Config → List LogHead → Unjoined → Type 0
SaysOfHeads steady c heads why =
    ((node : ℕ) × (h : LogHead) × (slice_get heads node ≡ Some h) × SaysOfHead steady c node h why)
    ⊎ SaysOfCount c (length heads) why

-- a log names this sum, or none
abbrev pub NamesSum : ℕ → Option ℕ → Type 0
NamesSum sum named = IfSome named (λ s. s ≡ sum)

-- the error says that the log of this node names another one
abbrev pub SaysOfSums : ℕ → List (Option ℕ) → Unjoined → Type 0
SaysOfSums sum named (OtherRun node) = (s : ℕ) × (slice_get named node ≡ Some (Some s)) × (s ≢ sum)
SaysOfSums sum named why = ⊥

module _ (c : Config) (o : Opening) (programs : List Program) where
  -- the end of the run, as contracts see it
  abbrev pub run_to : World (Host Managed) → Run
  run_to end = record { config = c; opened = o; programs = programs; world = end }

  -- the lists, one a node, are the parts of one run of these programs under this configuration and this opening; what
  -- is promised of every run holds at its end; and the sites are its nodes there
  pub record AreJoined (lists : List (List Mark)) (sites : List SiteView) : Type 0 where
    pub each : length lists ≡ c.nodes
    pub count : length sites ≡ c.nodes
    pub end : World (Host Managed)
    pub run : AreParts (host_rules managed_ops) c (opening (managed_start o) c programs)
        (part_in lists) end
    pub keeps : Keeps (run_to end)
    pub nodes : (i : ℕ) (s : SiteView) → slice_get sites i ≡ Some s
        → slice_get end.nodes i ≡ Some s.node

  -- the lists are not: no run of these programs under this configuration has them as its parts,
  -- wherever it ends
  abbrev pub AreNoParts : List (List Mark) → Type 0
  AreNoParts lists = (end : World (Host Managed))
      → AreParts (host_rules managed_ops) c (opening (managed_start o) c programs) (part_in lists) end
      → ⊥

-- the error says that logs are not the parts of a run: others say that memory ran out, or which
-- logs there are
abbrev pub SaysNoParts : Unjoined → Type 0
SaysNoParts (NotSent node line) = Unit {0}
SaysNoParts (NoSuchEvent node line) = Unit {0}
SaysNoParts (OtherAnswers node) = Unit {0}
SaysNoParts why = ⊥
