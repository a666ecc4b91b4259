-- What logs of own code come to that are the parts of one run.
use Rattle.std.specs.Prelude.{◌≡◌, ◌≤◌, ℕ, List, [], ◌++◌, length, map, slice_get, Option, Some, None}
use Rattle.ivy_model.specs.declared.Config.{Config}
use Rattle.ivy_model.specs.declared.Record.{Record}
use Rattle.ivy_model.specs.stated.Legal.{Legal}
use Rattle.ivy_host.specs.declared.opening.Opening.{Opening}
use Rattle.ivy_calls.specs.declared.Answer.{Answer}
use Rattle.ivy_calls.specs.Answers.{answers, answers_of}
use Rattle.ivy_logs.specs.Entries.{LogEntry, answers_in, events_in}
use Rattle.ivy_moves.specs.Marks.{marks}
use Rattle.ivy_program.specs.stated.Programs.{Program, Called}
use Rattle.ivy_site.specs.SiteView.{SiteView}
use Rattle.ivy_join.specs.Calls.{handed_by_log}
use Rattle.ivy_join.specs.Joined.{AreJoined}

-- own code that makes the calls of these entries, one after another, and has their pages fetched
-- ahead
abbrev pub program_by : List LogEntry → Program
program_by entries = handed_by_log entries (Called [] [])

-- the code of all nodes, by their logs
abbrev pub programs_by : List (List LogEntry) → List Program
programs_by logs = map program_by logs

-- the records have the answers of these entries, and at most one more: a node may have been killed before its
-- log had what it was answered last
pub record Tells (entries : List LogEntry) (history : List Record) : Type 0 where
  pub more : List Answer
  pub few : length more ≤ 1
  pub are : answers history ≡ answers_in entries ++ more

-- the site was answered what its log says
abbrev pub IsTold : Option (List LogEntry) → Option SiteView → Type 0
IsTold (Some entries) (Some s) = Tells entries s.node.core.history
IsTold (Some entries) None = Unit {0}
IsTold None s = Unit {0}

-- so was each of the sites
abbrev pub AreTold : List (List LogEntry) → List SiteView → Type 0
AreTold logs sites = (i : ℕ) → IsTold (slice_get logs i) (slice_get sites i)

-- the events of the logs, one a node, are the parts of one run of the programs that the calls and
-- the fetches in the logs are, under this configuration; what is promised of every run holds at its
-- end; the sites are its nodes there; and each was answered what its log says
pub record AreOwnJoined (c : Config) (o : Opening) (logs : List (List LogEntry)) (sites : List SiteView) : Type 0 where
  pub joined : AreJoined c o (programs_by logs) (map (λ entries. marks (events_in entries)) logs) sites
  pub told : AreTold logs sites

-- no node has a call in progress, and each has in its log all that it was answered
abbrev pub AreAllTold : List (List LogEntry) → List SiteView → Type 0
AreAllTold logs sites = (i : ℕ) (entries : List LogEntry) (s : SiteView) → slice_get logs i ≡ Some entries
    → slice_get sites i ≡ Some s
    → (s.node.core.memory.asked ≡ None) × (length s.node.core.history ≡ length (answers_in entries))

-- one flat memory, which serves one call at a time, could have answered the nodes so: some legal order has
-- of each node what its log says, and no more. Theorems of programs start from here
pub record AreAnswered (c : Config) (logs : List (List LogEntry)) : Type 0 where
  pub order : List Record
  pub legal : Legal c order
  pub each : (i : ℕ) (entries : List LogEntry) → slice_get logs i ≡ Some entries
      → answers_of i order ≡ answers_in entries
