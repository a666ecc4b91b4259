-- What the starter was told of the nodes of a session that may end before its programs.
use Rattle.std.specs.Prelude.{◌≡◌, ℕ, List, slice_get, Some, Contains}
use Rattle.ivy_model.specs.declared.Config.{Config}
use Rattle.ivy_program.specs.stated.Programs.{Program}
use Rattle.ivy_host.specs.declared.opening.Opening.{Opening}
use Rattle.ivy_ether.specs.Handings.{Handing}
use Rattle.ivy_ether.specs.Programs.{all_handed}
use Rattle.ivy_ether.specs.Views.{Closing, View}
use Rattle.ivy_standstill.specs.SoFar.{NodeSoFar, IsNodeSoFar}

-- of node i: what was handed to it, with its list; these make that node of it
pub record IsToldSoFar (c : Config) (opened : Opening) (programs : List Program) (v : View) (i : ℕ)
    (n : NodeSoFar) : Type 0 where
  pub handings : List Handing
  pub closed : Contains v.closed (record { node = i; handed = handings; events = n.events })
  pub so_far : IsNodeSoFar c opened (all_handed (λ _. handings) programs) i n

-- what was known of nodes stays known, and node i is told
abbrev pub TellsSoFar : Config → Opening → List Program → View → ℕ → NodeSoFar → View → Type 0
TellsSoFar c opened programs v i n v' =
    ((x : Closing) → Contains v.closed x → Contains v'.closed x) × IsToldSoFar c opened programs v'
    i n

-- so it is of each node
abbrev pub AreToldSoFar : Config → Opening → List Program → View → List NodeSoFar → Type 0
AreToldSoFar c opened programs v nodes = (i : ℕ) (n : NodeSoFar) → slice_get nodes i ≡ Some n
    → IsToldSoFar c opened programs v i n
