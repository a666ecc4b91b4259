-- What a finished session says of its report.
use Rattle.std.specs.Prelude.{◌≡◌, ℕ, List, ◌++◌, length, slice_get, Some, All}
use Rattle.ivy_model.specs.declared.Config.{Config}
use Rattle.ivy_model.specs.declared.Record.{Record}
use Rattle.ivy_model.specs.stated.Explains.{part}
use Rattle.ivy_model.specs.stated.Legal.{Legal}
use Rattle.ivy_program.specs.stated.Programs.{Program}
use Rattle.ivy_program.specs.stated.ProgramRuns.{IsWholeRun}
use Rattle.ivy_program.specs.InstructionSteps.{HasEnded}
use Rattle.ivy_moves.specs.declared.keep.Keep.{Keep}
use Rattle.ivy_moves.specs.Marks.{Mark}
use Rattle.ivy_moves.specs.stated.Explained.{IsUntorn}
use Rattle.ivy_moves.specs.stated.Nodes.{Effect}
use Rattle.ivy_moves.specs.Parts.{AreParts}
use Rattle.ivy_moves.specs.stated.Worlds.{World}
use Rattle.ivy_host.specs.declared.opening.Opening.{Opening}
use Rattle.ivy_host.specs.stated.Holding.{IsExclusive, HasNoBreach}
use Rattle.ivy_host.specs.stated.Hosts.{Host, host_rules, answered_by}
use Rattle.ivy_host.specs.stated.Managers.{Managed, managed_ops}
use Rattle.ivy_site.specs.SiteView.{SiteView}
use Rattle.ivy_ether.specs.Going.{IsListOf}
use Rattle.ivy_ether.specs.Handings.{Handing}
use Rattle.ivy_ether.specs.Programs.{beginning, all_handed}

-- of a node: what it was answered, what its program printed, and its event list; and which of these
-- lists can be read
pub record NodeReport : Type 0 where
  pub history : List Record
  pub output : List ℕ
  pub events : List Mark
  pub keep : Keep

-- what a report says of this site's node
abbrev pub report_of : SiteView → NodeReport
report_of s = record {
  history = s.node.core.history;
  output = s.node.core.process.state.output;
  events = s.events;
  keep = s.keep;
}

-- all nodes kept these lists
abbrev pub AllKeep : Keep → List NodeReport → Type 0
AllKeep keep nodes = All (λ (n : NodeReport). n.keep ≡ keep) nodes

module _ (c : Config) (opened : Opening) (programs : List Program) where
  -- history and output are those that node i's events give, by the definitions, for this list
  pub record IsNodeReport (i : ℕ) (n : NodeReport) : Type 0 where
    pub effect : Effect (Host Managed)
    pub list : IsListOf (host_rules managed_ops) c (beginning c opened programs) i n.events effect
    pub history : n.history ≡ effect.after.core.history
    pub output : n.output ≡ effect.after.core.process.state.output

  -- and node i's program has ended
  pub record IsDone (i : ℕ) (n : NodeReport) : Type 0 where
    pub of : IsNodeReport i n
    pub ended : HasEnded of.effect.after.core.process

  -- the order is legal, and each node's part of it is exactly its history
  pub record ExplainsWhole (order : List Record) (nodes : List NodeReport) : Type 0 where
    pub legal : Legal c order
    pub parts : (i : ℕ) (n : NodeReport) → slice_get nodes i ≡ Some n → part i order ≡ n.history

  -- at each point of node i's event list: past its history there the order has nothing of the node, or
  -- first of all the records of the calls that it has in progress there, next to one another
  abbrev pub IsNeverTorn : List Record → ℕ → NodeReport → Type 0
  IsNeverTorn order i n = (before after : List Mark) → n.events ≡ before ++ after
      → (effect : Effect (Host Managed))
      → IsListOf (host_rules managed_ops) c (beginning c opened programs) i before effect
      → IsUntorn order i (answered_by effect.after.core)

  -- each node's history and output are those of its event list; the lists are the parts of one run
  -- of these programs; each history is the whole run of its program, with that output; some order
  -- explains the histories, and tears no calls apart that a node had in progress together; at the end
  -- of the run no page is writable at one node and readable at another, and no node has met a message
  -- that fits no rule
  pub record IsReport (nodes : List NodeReport) : Type 0 where
    pub all : length nodes ≡ length programs
    pub each : (i : ℕ) (n : NodeReport) → slice_get nodes i ≡ Some n → IsNodeReport i n
    pub parts : ℕ → List Mark
    pub lists : (i : ℕ) (n : NodeReport) → slice_get nodes i ≡ Some n → parts i ≡ n.events
    pub end : World (Host Managed)
    pub run : AreParts (host_rules managed_ops) c (beginning c opened programs) parts end
    pub whole : (i : ℕ) (n : NodeReport) → slice_get nodes i ≡ Some n
        → (program : Program) × (slice_get programs i ≡ Some program)
        × IsWholeRun program n.history n.output
    pub order : List Record
    pub explained : ExplainsWhole order nodes
    pub untorn : (i : ℕ) (n : NodeReport) → slice_get nodes i ≡ Some n → IsNeverTorn order i n
    pub exclusive : IsExclusive end
    pub no_breach : HasNoBreach end

-- such a report, of these programs where some calls, and pages to fetch ahead, were handed to each
-- node; to those that are written down nothing can be
abbrev pub IsHandedReport : Config → Opening → List Program → List NodeReport → Type 0
IsHandedReport c opened programs nodes =
    (handings : ℕ → List Handing) × IsReport c opened (all_handed handings programs) nodes
