-- A node with own code in a process: what it did, called, had fetched ahead and was answered, and
-- what its log has of that.
use Rattle.std.specs.Prelude.{◌≡◌, ◌+◌, ◌<◌, ◌≤◌, ℕ, Bool, List, [], ◌∷◌, ◌++◌, length, take, Option, Some, None}
use Rattle.std.specs.Io.KnownBytes.{Appends}
use Rattle.ivy_model.specs.declared.Call.{Call}
use Rattle.ivy_model.specs.declared.Record.{Record}
use Rattle.ivy_model.specs.declared.Reply.{Reply}
use Rattle.ivy_calls.specs.declared.Answer.{Answer}
use Rattle.ivy_calls.specs.Answers.{answers}
use Rattle.ivy_logs.specs.declared.log.LogEntry.TheVariants.{Asked, Answered, Fetched}
use Rattle.ivy_logs.specs.declared.log.LogHead.{LogHead}
use Rattle.ivy_logs.specs.Entries.{LogEntry, answers_in, calls_in, entry_line, events_in, entry_lines}
use Rattle.ivy_site.specs.Calls.{BeginsFetch}
use Rattle.ivy_site.specs.Handed.{site_handed}
use Rattle.ivy_site.specs.Sites.{IsMadeByEvents}
use Rattle.ivy_join.specs.Calls.{handed_by_log}
use Rattle.ivy_join.specs.Joined.{opening_by}
use Rattle.ivy_join.specs.OwnJoined.{program_by}
use Rattle.ivy_join.specs.ReplaySites.{program_in, AddsRecords}
use Rattle.ivy_join.specs.Remade.{IsAnsweredLast, StandFirst}
use Rattle.ivy_moves.specs.Marks.{Mark, marks}
use Rattle.ivy_program.specs.stated.Programs.{Program}
use Rattle.ivy_process.specs.declared.failure.NodeFailure.{NodeFailure}
use Rattle.ivy_process.specs.declared.past.Recalled.{Recalled}
use Rattle.ivy_process.specs.declared.past.Recalled.TheVariants.{Known, Open, New}
use Rattle.ivy_process.specs.NodeLogs.{Served}

-- the node of this log is what the events of it make of it, its code has made the calls in it, had
-- its pages fetched ahead and was answered first what it says, and the log lacks no line; the node
-- may make so many turns more
pub record IsOpened (head : LogHead) (log : List LogEntry) (turns : ℕ) (new : Served) : Type 0 where
  pub config : new.site.config ≡ head.config
  pub opened : new.site.opened ≡ opening_by head.steady
  pub number : new.site.me ≡ head.me
  pub runs : program_in new.site ≡ program_by log
  pub events : new.site.events ≡ marks (events_in log)
  pub told : StandFirst (answers_in log) new.site.node.core.history
  pub made : IsMadeByEvents new.site
  pub whole : new.unlogged ≡ []
  pub left : new.left ≡ turns

-- the node's code made the call, and its line is noted
pub record NotesCall (call : Call) (old new : Served) : Type 0 where
  pub made : new.site ≡ site_handed ((call ∷ []) ∷ []) old.site
  pub noted : new.unlogged ≡ old.unlogged ++ entry_line (Asked call)

-- the node's code had the page fetched ahead, in one of the turns that the node may make, and its
-- line is noted
pub record NotesFetch (page : ℕ) (write : Bool) (old new : Served) : Type 0 where
  pub begins : BeginsFetch page write old.site new.site
  pub noted : new.unlogged ≡ old.unlogged ++ entry_line (Fetched page write)
  pub left : new.left + 1 ≡ old.left

-- after so many answers the node's code had this one, to this call, and its line is noted
pub record NotesAnswer (count : ℕ) (call : Call) (reply : Reply) (old new : Served) : Type 0 where
  pub last : IsAnsweredLast count (record { call = call; reply = reply }) old.site.node.core.history
  pub same : new.site ≡ old.site
  pub noted : new.unlogged ≡ old.unlogged ++ entry_line (Answered (record { call = call; reply = reply }))

-- this is the last of the calls that the log has
abbrev pub EndsByCall : List LogEntry → Call → Type 0
EndsByCall entries call = (before : List Call) × (calls_in entries ≡ before ++ call ∷ [])

-- what a log says of a call that is made again, from a place on: the next answer is of this call; or there is none,
-- and the call is its last one; or it has no call more
abbrev pub IsRecalled : List LogEntry → ℕ → Call → Recalled → Type 0
IsRecalled entries place call (Known reply next) =
    (place < length entries) × (next ≤ length entries)
    × (answers_in (take next entries)
    ≡ answers_in (take place entries) ++ record { call = call; reply = reply } ∷ [])
IsRecalled entries place call Open =
    (answers_in entries ≡ answers_in (take place entries)) × EndsByCall entries call
IsRecalled entries place call New = (answers_in entries ≡ answers_in (take place entries))
    × (calls_in entries ≡ calls_in (take place entries))

-- where a node began: what its log says, the calls that its code had made and what it was answered, the events that it
-- had made, what the log lacked of them, and what was written there
pub record Begun : Type 0 where
  pub past : List LogEntry
  pub program : Program
  pub history : List Record
  pub events : List Mark
  pub unlogged : List ℕ
  pub log : Option (List ℕ)

abbrev pub begun : List LogEntry → Served → Option (List ℕ) → Begun
begun past s log = record {
  past = past;
  program = program_in s.site;
  history = s.site.node.core.history;
  events = s.site.events;
  unlogged = s.unlogged;
  log = log;
}

-- from there the node went on by entries, of which these are the answers, and its code made the
-- calls of them and had their pages fetched ahead, and no other ones: what was written behind the
-- log, and what it lacks now, are what it lacked before, and the lines of the entries
pub record OwnStreams (from : Begun) (new : Served) (log : Option (List ℕ)) (told : List Answer) : Type 0
  where
    pub entries : List LogEntry
    pub answers : answers_in entries ≡ told
    pub handed : program_in new.site ≡ handed_by_log entries from.program
    pub answered : AddsRecords from.history new.site.node.core.history
    pub listed : new.site.events ≡ from.events ++ marks (events_in entries)
    pub part : List ℕ
    pub written : Appends from.log log part
    pub all : part ++ new.unlogged ≡ from.unlogged ++ entry_lines entries

-- so it did, and after so many answers the call was answered so
pub record Replies (call : Call) (reply : Reply) (count : ℕ) (old new : Served) (log log' : Option (List ℕ))
    : Type 0 where
  pub streams : OwnStreams (begun [] old log) new log' (record { call = call; reply = reply } ∷ [])
  pub last : IsAnsweredLast count (record { call = call; reply = reply }) new.site.node.core.history

-- its work was told again what the log says up to this place, and then, once the log had no more, was answered by
-- the node. The log has so many answers now; where those that it had were the node's first ones, so are these
pub record Resumes (from : Begun) (place count : ℕ) (new : Served) (log : Option (List ℕ)) (told : List Answer)
    : Type 0 where
  pub within : place ≤ length from.past
  pub fresh : List Answer
  pub streams : OwnStreams from new log fresh
  pub are : told ≡ answers_in (take place from.past) ++ fresh
  pub again : place < length from.past → fresh ≡ []
  pub many : count ≡ length (answers_in from.past ++ fresh)
  pub first : StandFirst (answers_in from.past) from.history
      → StandFirst (answers_in from.past ++ fresh) new.site.node.core.history

-- so it did, unless it failed
abbrev pub ResumesUnless : Option NodeFailure → Begun → ℕ → ℕ → Served → Option (List ℕ) → List Answer
    → Type 0
ResumesUnless (Some failure) from place count new log told = Unit {0}
ResumesUnless None from place count new log told = Resumes from place count new log told

-- the call was answered so, by what its log says from a place on, or else by the node: from wherever its work has come
-- that far, it has come to this place, with one answer more
pub record RepliesFrom (past : List LogEntry) (call : Call) (reply : Reply) (place place' count count' : ℕ)
    (old new : Served) (log log' : Option (List ℕ)) : Type 0 where
  pub within : place' ≤ length past
  pub resumes : (from : Begun) (told : List Answer) → from.past ≡ past → Resumes from place count old log told
      → Resumes from place' count' new log' (told ++ record { call = call; reply = reply } ∷ [])

-- its work was told again all that the log says, and then was answered by the node
pub record HasResumed (from : Begun) (count : ℕ) (new : Served) (log : Option (List ℕ)) (told : List Answer)
    : Type 0 where
  pub fresh : List Answer
  pub streams : OwnStreams from new log fresh
  pub are : told ≡ answers_in from.past ++ fresh
  pub many : count ≡ length (answers_in from.past ++ fresh)
  pub first : StandFirst (answers_in from.past) from.history
      → StandFirst (answers_in from.past ++ fresh) new.site.node.core.history

-- by what the log says that the node was answered, before and since, its work has done what it had
-- to, and given this; behind the log was written what it lacked, and the lines of all that the node
-- did, called, had fetched ahead and was answered since: its events are those, its code handed
-- that, and it was answered what the log says, and nothing else
pub record HasWorked {Out : Type 0} (done : ℕ → List Answer → Out → Type 0) (past : List LogEntry)
    (old new : Served) (log log' : Option (List ℕ)) (out : Out) : Type 0 where
  pub entries : List LogEntry
  pub listed : new.site.events ≡ old.site.events ++ marks (events_in entries)
  pub handed : program_in new.site ≡ handed_by_log entries (program_in old.site)
  pub answered : StandFirst (answers_in past) old.site.node.core.history
      → answers new.site.node.core.history ≡ answers_in (past ++ entries)
  pub written : Appends log log' (old.unlogged ++ entry_lines entries)
  pub whole : new.unlogged ≡ []
  pub did : done old.site.me (answers_in (past ++ entries)) out
