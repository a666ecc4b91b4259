-- What the starter was told of the nodes of a session.
use Rattle.std.specs.Prelude.{◌≡◌, ℕ, List, slice_get, Some, Contains}
use Rattle.ivy_model.specs.declared.Config.{Config}
use Rattle.ivy_program.specs.stated.Programs.{Program}
use Rattle.ivy_host.specs.declared.opening.Opening.{Opening}
use Rattle.ivy_ether.specs.Handings.{Handing}
use Rattle.ivy_ether.specs.Programs.{all_handed}
use Rattle.ivy_ether.specs.Views.{Closing, View}
use Rattle.ivy_seating.specs.Reports.{NodeReport, IsDone}

-- of node i: what was handed to it, with its list; and by these the node's program has ended
pub record IsTold (c : Config) (opened : Opening) (programs : List Program) (v : View) (i : ℕ)
    (n : NodeReport) : Type 0
  where
    pub handings : List Handing
    pub closed : Contains v.closed (record { node = i; handed = handings; events = n.events })
    pub done : IsDone c opened (all_handed (λ _. handings) programs) i n

-- what was known of nodes stays known, and node i is told
abbrev pub TellsOf : Config → Opening → List Program → View → ℕ → NodeReport → View → Type 0
TellsOf c opened programs v i n v' =
    ((x : Closing) → Contains v.closed x → Contains v'.closed x) × IsTold c opened programs v' i n

-- so it is of each node
abbrev pub AreTold : Config → Opening → List Program → View → List NodeReport → Type 0
AreTold c opened programs v nodes = (i : ℕ) (n : NodeReport) → slice_get nodes i ≡ Some n
    → IsTold c opened programs v i n
