-- A site that is made again from its own log.
use Rattle.std.specs.Prelude.{◌≡◌, ℕ, List, [], ◌∷◌, ◌++◌, length}
use Rattle.ivy_model.specs.declared.Record.{Record}
use Rattle.ivy_calls.specs.declared.Answer.{Answer}
use Rattle.ivy_calls.specs.Answers.{answers}
use Rattle.ivy_logs.specs.declared.log.LogEntry.TheVariants.{Did, Asked, Answered, Fetched}
use Rattle.ivy_logs.specs.Entries.{LogEntry, answers_in, events_in}
use Rattle.ivy_moves.specs.Marks.{marks}
use Rattle.ivy_moves.specs.Parts.{AllCanBeMade}
use Rattle.ivy_site.specs.SiteView.{SiteView}
use Rattle.ivy_site.specs.Sites.{IsMadeByEvents}
use Rattle.ivy_join.specs.Calls.{handed_by_log}
use Rattle.ivy_join.specs.ReplaySites.{program_in, AddsRecords, CanBeTaken}

-- a string that the entry delivers is one of these
abbrev pub CanTake : List (List ℕ) → LogEntry → Type 0
CanTake sent (Did event) = CanBeTaken sent event
CanTake sent (Asked call) = Unit {0}
CanTake sent (Answered answer) = Unit {0}
CanTake sent (Fetched page write) = Unit {0}

-- the site went on by the events of the entries, and its code handed what they say; what was
-- delivered to the site is among these strings
pub record GoesOnByEntries (sent : List (List ℕ)) (entries : List LogEntry) (old new : SiteView) : Type 0 where
  pub me : new.me ≡ old.me
  pub config : new.config ≡ old.config
  pub opened : new.opened ≡ old.opened
  pub program : program_in new ≡ handed_by_log entries (program_in old)
  pub answered : AddsRecords old.node.core.history new.node.core.history
  pub events : new.events ≡ old.events ++ marks (events_in entries)
  pub took : AllCanBeMade sent new.config.nodes new.me new.events

-- these answers are the first of those that the records have
pub record StandFirst (told : List Answer) (history : List Record) : Type 0 where
  pub more : List Answer
  pub are : answers history ≡ told ++ more

-- so many calls were answered, and then one more, so; and none since
pub record IsAnsweredLast (count : ℕ) (last : Answer) (history : List Record) : Type 0 where
  pub before : List Answer
  pub many : length before ≡ count
  pub are : answers history ≡ before ++ last ∷ []

-- so it is of the answer of the entry, where it is one
abbrev pub HasAnswer : ℕ → LogEntry → List Record → Type 0
HasAnswer count (Did event) history = Unit {0}
HasAnswer count (Asked call) history = Unit {0}
HasAnswer count (Answered answer) history = IsAnsweredLast count answer history
HasAnswer count (Fetched page write) history = Unit {0}

-- from its first event the site went on by those of the log, and by no other one, its code made the
-- calls of the log and had its pages fetched ahead, and no other ones, and the site is what its
-- events make of it; and its code was answered first what the log says, in order
pub record IsMadeByLog (log : List LogEntry) (old new : SiteView) : Type 0 where
  pub me : new.me ≡ old.me
  pub config : new.config ≡ old.config
  pub opened : new.opened ≡ old.opened
  pub program : program_in new ≡ handed_by_log log (program_in old)
  pub events : new.events ≡ marks (events_in log)
  pub told : StandFirst (answers_in log) new.node.core.history
  pub made : IsMadeByEvents new
