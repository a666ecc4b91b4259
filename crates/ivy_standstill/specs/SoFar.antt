-- What a session says that may end before its programs.
use Rattle.std.specs.Prelude.{◌≡◌, ◌≢◌, ℕ, List, length, map, slice_get, Some, All}
use Rattle.ivy_model.specs.declared.Config.{Config}
use Rattle.ivy_model.specs.declared.Record.{Record}
use Rattle.ivy_program.specs.stated.Programs.{Program}
use Rattle.ivy_moves.specs.declared.keep.Keep.{Keep}
use Rattle.ivy_moves.specs.stated.Explained.{IsExplainedBy}
use Rattle.ivy_link.specs.stated.Linked.{peer_at}
use Rattle.ivy_moves.specs.Marks.{Mark}
use Rattle.ivy_moves.specs.stated.Nodes.{Node, Effect}
use Rattle.ivy_moves.specs.Parts.{AreParts}
use Rattle.ivy_moves.specs.stated.Worlds.{World}
use Rattle.ivy_host.specs.declared.opening.Opening.{Opening}
use Rattle.ivy_host.specs.stated.Hosts.{Host, host_rules, answered_by}
use Rattle.ivy_host.specs.stated.Managers.{Managed, managed_ops}
use Rattle.ivy_ether.specs.Going.{IsListOf}
use Rattle.ivy_ether.specs.Handings.{Handing}
use Rattle.ivy_ether.specs.Programs.{beginning, all_handed}
use Rattle.ivy_site.specs.SiteView.{SiteView}
use Rattle.proof_worlds.specs.stated.RunState.{Run}
use Rattle.proof_worlds.specs.stated.Keeping.{Keeps}
use Rattle.proof_worlds.specs.stated.Unblocked.{AreUnblocked}

-- of a node: what its events made of it, these events, and which lists of its past can be read
pub record NodeSoFar : Type 0 where
  pub node : Node (Host Managed)
  pub events : List Mark
  pub keep : Keep

-- what is said of this site's node
abbrev pub so_far_of : SiteView → NodeSoFar
so_far_of s = record { node = s.node; events = s.events; keep = s.keep }

-- all nodes kept these lists
abbrev pub AllKeepSoFar : Keep → List NodeSoFar → Type 0
AllKeepSoFar keep nodes = All (λ (n : NodeSoFar). n.keep ≡ keep) nodes

-- all that one node sent to another one was delivered there
abbrev pub AreDelivered : List NodeSoFar → Type 0
AreDelivered nodes = (i j : ℕ) (n m : NodeSoFar) → i ≢ j → slice_get nodes i ≡ Some n
    → slice_get nodes j ≡ Some m
    → (peer_at m.node.link i).delivered ≡ (peer_at n.node.link j).sent

-- so no node is blocked, whatever the turns of the others would do: by the last memory of some legal
-- order it has no call in progress, or one that its next turn answers, or an await of a count that is
-- too low; or of one that has come to its least value, and its next turn asks for a copy of it; or a
-- call of a page that it was handed to fetch, which its next turn answers, or which waits at the
-- page's entry from then on
abbrev pub AreUnblockedSoFar : Config → List NodeSoFar → Type 0
AreUnblockedSoFar c nodes = AreUnblocked managed_ops c (map (λ (n : NodeSoFar). n.node.core) nodes)

module _ (c : Config) (opened : Opening) (programs : List Program) where
  -- the events happen one after another from node i's beginning, and make this node of it
  pub record IsNodeSoFar (i : ℕ) (n : NodeSoFar) : Type 0 where
    pub effect : Effect (Host Managed)
    pub list : IsListOf (host_rules managed_ops) c (beginning c opened programs) i n.events effect
    pub node : n.node ≡ effect.after

  -- a world of the programs
  abbrev pub at_world : World (Host Managed) → Run
  at_world w = record { config = c; opened = opened; programs = programs; world = w }

  -- the nodes' events are the parts of one run of these programs, which ends with exactly these nodes;
  -- all holds there that holds of each world that moves lead to; and some legal order explains what
  -- the nodes were answered so far
  pub record IsReportSoFar (nodes : List NodeSoFar) : Type 0 where
    pub all : length nodes ≡ length programs
    pub parts : ℕ → List Mark
    pub end : World (Host Managed)
    pub run : AreParts (host_rules managed_ops) c (beginning c opened programs) parts end
    pub lists : (i : ℕ) (n : NodeSoFar) → slice_get nodes i ≡ Some n → parts i ≡ n.events
    pub each : (i : ℕ) (n : NodeSoFar) → slice_get nodes i ≡ Some n
        → slice_get end.nodes i ≡ Some n.node
    pub keeps : Keeps (at_world end)
    pub order : List Record
    pub explained : IsExplainedBy (host_rules managed_ops) c answered_by end order

-- such a report, of these programs where some calls, and pages to fetch ahead, were handed to each
-- node
abbrev pub IsHandedSoFar : Config → Opening → List Program → List NodeSoFar → Type 0
IsHandedSoFar c opened programs nodes =
    (handings : ℕ → List Handing) × IsReportSoFar c opened (all_handed handings programs) nodes
