-- What is printed of logs of own code that are the parts of one run.
use Rattle.std.specs.Prelude.{◌≡◌, ◌==◌, ◌&&◌, ℕ, Bool, false, List, [], ◌∷◌, ◌++◌, Option, codes, decimal, length, if◌then◌else◌}
use Rattle.std.specs.List.{AllZip, zip}
use Rattle.std.specs.Option.{is_none}
use Rattle.std.specs.Io.KnownBytes.{Appends}
use Rattle.ivy_model.specs.declared.Config.{Config}
use Rattle.ivy_simulation.specs.Nodes.{numbered_texts}
use Rattle.ivy_texts.specs.Lines.{end_line}
use Rattle.ivy_texts.specs.Printed.{then_number}
use Rattle.ivy_logs.specs.declared.log.LogHead.{LogHead}
use Rattle.ivy_logs.specs.declared.log.LogKind.TheVariants.{OfOwnCode}
use Rattle.ivy_logs.specs.Entries.{LogEntry, answers_in}
use Rattle.ivy_site.specs.SiteView.{SiteView}
use Rattle.ivy_join.specs.Joined.{opening_by, AreHeads}
use Rattle.ivy_join.specs.OwnJoined.{AreAllTold, AreAnswered, AreOwnJoined}
use Rattle.ivynode.specs.Fetched.{all_fetched_in}
use Rattle.ivynode.specs.Joined.{IsSpelled}

-- the line that says how many calls of the node were answered
abbrev pub answered_line : ℕ → ℕ → List ℕ
answered_line node count =
    codes "node" ++ then_number node ++ codes ": " ++ decimal count ++ codes " answered" ++ 10 ∷ []

abbrev pub answered_in : ℕ → SiteView → List ℕ
answered_in number s = answered_line number (length s.node.core.history)

-- these lines of all nodes
abbrev pub all_answered_in : List SiteView → List ℕ
all_answered_in sites = numbered_texts answered_in 0 sites

-- no call is in progress at the site, and the log has all that it was answered
abbrev pub is_whole : List LogEntry → SiteView → Bool
is_whole entries s =
    is_none s.node.core.memory.asked && (length s.node.core.history == length (answers_in entries))

-- the line of a node of which that is not so
abbrev pub open_line : ℕ → Bool → List ℕ
open_line number whole = if whole then [] else end_line number false

abbrev pub open_in : ℕ → List LogEntry × SiteView → List ℕ
open_in number joined = open_line number (is_whole joined.0 joined.1)

-- these lines of all nodes, of which these are the logs
abbrev pub all_open_in : List (List LogEntry) → List SiteView → List ℕ
all_open_in logs sites = numbered_texts open_in 0 (zip logs sites)

-- what is printed of sites and their logs: how many calls were answered, how many pages were fetched
-- ahead and called for, and which nodes have a call in progress, or lack an answer in their log
abbrev pub own_text : Config → List (List LogEntry) → List SiteView → List ℕ
own_text c logs sites = all_answered_in sites ++ all_fetched_in c logs ++ all_open_in logs sites

-- logs of own code, each as some text spells it, were joined: they are the parts of one run of the
-- programs that the calls and the fetches in them are, and each node was answered in it what its
-- log says. The text of these sites and logs was printed. Where it names no node that has a call in
-- progress, or lacks an answer in its log, one flat memory could have given the answers in the logs
pub record PrintsOwnJoined (old new : Option (List ℕ)) : Type 0 where
  pub steady : Bool
  pub config : Config
  pub heads : List LogHead
  pub logs : List (List LogEntry)
  pub spelled : AllZip (IsSpelled OfOwnCode) heads logs
  pub own : AreHeads steady config 0 heads
  pub sites : List SiteView
  pub joined : AreOwnJoined config (opening_by steady) logs sites
  pub told : all_open_in logs sites ≡ [] → AreAllTold logs sites
  pub answered : AreAllTold logs sites → AreAnswered config logs
  pub printed : Appends old new (own_text config logs sites)
