-- What is printed of logs that are the parts of one run.
use Rattle.std.specs.Prelude.{ℕ, Bool, List, ◌++◌, map, Option}
use Rattle.std.specs.List.{AllZip}
use Rattle.std.specs.Io.KnownBytes.{Appends}
use Rattle.ivy_model.specs.declared.Config.{Config}
use Rattle.ivy_moves.specs.Marks.{Mark, marks}
use Rattle.ivy_program.specs.stated.Programs.{Program}
use Rattle.ivy_program.specs.texts.Texts.{SpellsText}
use Rattle.ivy_simulation.specs.Nodes.{outputs_text, numbered_texts, has_ended}
use Rattle.ivy_texts.specs.Lines.{end_line}
use Rattle.ivy_logs.specs.declared.log.LogHead.{LogHead}
use Rattle.ivy_logs.specs.declared.log.LogKind.{LogKind}
use Rattle.ivy_logs.specs.declared.log.LogKind.TheVariants.{OfProgram}
use Rattle.ivy_logs.specs.Entries.{LogEntry, SpellsLog, events_in}
use Rattle.ivy_site.specs.SiteView.{SiteView}
use Rattle.ivy_join.specs.Joined.{opening_by, AreHeads, AreJoined, AreNoParts, SaysNoParts}
use Rattle.ivynode.specs.declared.failure.Failure.{Failure}
use Rattle.ivynode.specs.declared.failure.Failure.TheVariants.{Unjoined}

-- some text spells these programs
abbrev pub AreSpelled : List Program → Type 0
AreSpelled programs = (text : List ℕ) × SpellsText text programs

-- some text spells this log of this kind
abbrev pub IsSpelled : LogKind → LogHead → List LogEntry → Type 0
IsSpelled kind head entries = (text : List ℕ) × SpellsLog kind text head entries

-- the lists of events of these logs
abbrev pub lists_of : List (List LogEntry) → List (List Mark)
lists_of logs = map (λ entries. marks (events_in entries)) logs

-- what the program of each node printed
abbrev pub outputs_in : List SiteView → List (List ℕ)
outputs_in sites = map (λ s. s.node.core.process.state.output) sites

-- the line that says whether the program of the node has ended
abbrev pub end_in : ℕ → SiteView → List ℕ
end_in number s = end_line number (has_ended s.node.core.process)

-- these lines of all nodes
abbrev pub ends_in : List SiteView → List ℕ
ends_in sites = numbered_texts end_in 0 sites

-- logs of these nodes with these entries were joined: they are the parts of one run of the programs. What the
-- nodes printed in that run was printed, and which of their programs have ended there
pub record PrintsRun (programs : List Program) (heads : List LogHead) (logs : List (List LogEntry))
    (old new : Option (List ℕ)) : Type 0 where
  pub steady : Bool
  pub config : Config
  pub own : AreHeads steady config 0 heads
  pub sites : List SiteView
  pub joined : AreJoined config (opening_by steady) programs (lists_of logs) sites
  pub printed : Appends old new (outputs_text (outputs_in sites) ++ ends_in sites)

-- the logs are those of all nodes of one configuration, and the parts of no run of these programs under it
pub record AreOfNoRun (programs : List Program) (heads : List LogHead) (logs : List (List LogEntry)) : Type 0
  where
    pub steady : Bool
    pub config : Config
    pub own : AreHeads steady config 0 heads
    pub none : AreNoParts config (opening_by steady) programs (lists_of logs)

-- the failure says that logs are not the parts of a run
abbrev pub IsNoRun : Failure → Type 0
IsNoRun (Unjoined why) = SaysNoParts why
IsNoRun failure = ⊥

-- programs and logs, each as some text spells it, were joined: the logs are the parts of one run of the
-- programs. What the nodes printed in that run was printed, and which of their programs have ended there
pub record PrintsJoined (old new : Option (List ℕ)) : Type 0 where
  pub steady : Bool
  pub config : Config
  pub programs : List Program
  pub spelled : AreSpelled programs
  pub heads : List LogHead
  pub logs : List (List LogEntry)
  pub said : AllZip (IsSpelled OfProgram) heads logs
  pub own : AreHeads steady config 0 heads
  pub sites : List SiteView
  pub joined : AreJoined config (opening_by steady) programs (lists_of logs) sites
  pub printed : Appends old new (outputs_text (outputs_in sites) ++ ends_in sites)

-- programs and logs, each as some text spells it, do not belong together: the logs are those of all nodes of one
-- configuration, and the parts of no run of these programs under it
pub record AreRefused : Type 0 where
  pub programs : List Program
  pub spelled : AreSpelled programs
  pub heads : List LogHead
  pub logs : List (List LogEntry)
  pub said : AllZip (IsSpelled OfProgram) heads logs
  pub none : AreOfNoRun programs heads logs
