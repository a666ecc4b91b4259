-- What a node in a process has in its log, and what it lacks there.
use Rattle.std.specs.Prelude.{◌≡◌, ◌⊎◌, ◌+◌, ℕ, Bool, true, false, List, [], ◌∷◌, ◌++◌, Option, drop, flat_map, unwrap_or}
use Rattle.std.specs.Io.KnownBytes.{Appends}
use Rattle.ivy_model.specs.declared.Config.{Config}
use Rattle.ivy_wire.specs.Destinations.{dest_of}
use Rattle.ivy_moves.specs.Events.{Event}
use Rattle.ivy_moves.specs.declared.event.Event.TheVariants.{Turns, Delivered, Pulsed}
use Rattle.ivy_moves.specs.Marks.{Delivery, Mark, marks}
use Rattle.ivy_program.specs.stated.Programs.{Program}
use Rattle.ivy_host.specs.declared.opening.Opening.{Opening}
use Rattle.ivy_host.specs.declared.opening.Opening.TheVariants.{Configured, Steady}
use Rattle.ivy_logs.specs.declared.log.LogHead.{LogHead}
use Rattle.ivy_logs.specs.Entries.{LogEntry, events_in}
use Rattle.ivy_program.specs.texts.TextWords.{words_of}
use Rattle.ivy_logs.specs.Printed.{event_line, frame_line}
use Rattle.ivy_logs.specs.Spelled.{SpellsFrame}
use Rattle.ivy_site.specs.SiteView.{SiteView}
use Rattle.ivy_texts.specs.Lines.{value_line}
use Rattle.ivy_site.specs.Sites.{IsMadeByEvents}
use Rattle.ivy_join.specs.Remade.{IsMadeByLog}
use Rattle.ivy_join.specs.ReplaySites.{program_in, AddsRecords}

-- a node, the lines of those of its events that its log lacks yet, how many turns its program may make still, and how
-- many of the values that it printed were told
pub record Served : Type 0 where
  pub site : SiteView
  pub unlogged : List ℕ
  pub left : ℕ
  pub told : ℕ

abbrev pub served : SiteView → List ℕ → ℕ → ℕ → Served
served site unlogged left told = record { site = site; unlogged = unlogged; left = left; told = told }

-- a node began with steady hints, or with the manager of its configuration
abbrev pub is_steady : Opening → Bool
is_steady Configured = false
is_steady Steady = true

-- what the first line of its log says of a node
abbrev pub head_of : SiteView → LogHead
head_of s = record { me = s.me; config = s.config; steady = is_steady s.opened }

-- so many turns an event is, and so many these are
abbrev pub turns_of : Event → ℕ
turns_of (Turns count) = count
turns_of (Delivered bytes) = 0
turns_of (Pulsed to) = 0

abbrev pub turns_in : List Event → ℕ
turns_in [] = 0
turns_in (e ∷ es) = turns_of e + turns_in es

-- the lines of these events
abbrev pub lines_of : List Event → List ℕ
lines_of events = flat_map event_line events

-- the line of a string that waits, for the node that its header names
abbrev pub waiting_line : List ℕ → List ℕ
waiting_line bytes = frame_line (unwrap_or (dest_of bytes) 0) bytes

-- the lines of all that wait, the first first
abbrev pub waiting_lines : List (List ℕ) → List ℕ
waiting_lines strings = flat_map waiting_line strings

-- the code at the site made no call, and what it was answered before stands first in what it was answered
-- since
pub record KeepsCalls (old new : SiteView) : Type 0 where
  pub program : program_in new ≡ program_in old
  pub answered : AddsRecords old.node.core.history new.node.core.history

-- the node went on by events, and their lines are what its log lacks besides; of the turns that its program might
-- make it made those among them
pub record AddsEvents (old new : Served) : Type 0 where
  pub events : List Event
  pub listed : new.site.events ≡ old.site.events ++ marks events
  pub noted : new.unlogged ≡ old.unlogged ++ lines_of events
  pub left : new.left + turns_in events ≡ old.left
  pub told : new.told ≡ old.told
  pub kept : KeepsCalls old.site new.site

-- the first of the events that the node went on by, if there is one, is the delivery of this string
pub record Takes (bytes : List ℕ) (old new : Served) : Type 0 where
  pub more : List Mark
  pub listed : new.site.events ≡ old.site.events ++ more
  pub first : (more ≡ []) ⊎ ((rest : List Mark) × (more ≡ Delivery bytes ∷ rest))

-- the line has a frame for the node, whose string it takes so; or the node makes no event
abbrev pub TakesLine : List ℕ → Served → Served → Type 0
TakesLine line old new = (new.site.events ≡ old.site.events)
    ⊎ ((bytes : List ℕ) × SpellsFrame (words_of line) old.site.me bytes × Takes bytes old new)

-- the lines of the values that its program printed and that were not told
abbrev pub value_lines : Served → List ℕ
value_lines s = flat_map (value_line s.site.me) (drop s.told s.site.node.core.process.state.output)

-- what the log lacked is written behind it, and the node made no event
pub record IsLogged (old new : Served) (log log' : Option (List ℕ)) : Type 0 where
  pub listed : new.site.events ≡ old.site.events
  pub written : Appends log log' old.unlogged
  pub whole : new.unlogged ≡ []
  pub left : new.left ≡ old.left
  pub kept : KeepsCalls old.site new.site

-- the node went on by events: what was written behind the log, and what it lacks now, are what it lacked
-- before, and their lines. Of the turns that its program might make it made those among them
pub record StreamsPart (old new : Served) (log log' : Option (List ℕ)) : Type 0 where
  pub events : List Event
  pub listed : new.site.events ≡ old.site.events ++ marks events
  pub part : List ℕ
  pub written : Appends log log' part
  pub all : part ++ new.unlogged ≡ old.unlogged ++ lines_of events
  pub left : new.left + turns_in events ≡ old.left
  pub kept : KeepsCalls old.site new.site

-- and it lacks nothing
pub record StreamsWhole (old new : Served) (log log' : Option (List ℕ)) : Type 0 where
  pub events : List Event
  pub listed : new.site.events ≡ old.site.events ++ marks events
  pub written : Appends log log' (old.unlogged ++ lines_of events)
  pub whole : new.unlogged ≡ []
  pub left : new.left + turns_in events ≡ old.left
  pub kept : KeepsCalls old.site new.site

-- the site, which had made no event, was made again by this log, and the log lacks nothing; its program may make so
-- many turns more
pub record IsMadeAgain (log : List LogEntry) (site : SiteView) (turns : ℕ) (new : Served) : Type 0 where
  pub by_log : IsMadeByLog log site new.site
  pub whole : new.unlogged ≡ []
  pub left : new.left ≡ turns

-- the node of this number and program, which began so, is what the events of its log make of it, and the log lacks
-- nothing; the program may make so many turns more
pub record IsRestarted (o : Opening) (c : Config) (me : ℕ) (program : Program) (log : List LogEntry) (turns : ℕ)
    (new : Served) : Type 0 where
  pub config : new.site.config ≡ c
  pub opened : new.site.opened ≡ o
  pub number : new.site.me ≡ me
  pub runs : program_in new.site ≡ program
  pub events : new.site.events ≡ marks (events_in log)
  pub made : IsMadeByEvents new.site
  pub whole : new.unlogged ≡ []
  pub left : new.left ≡ turns

-- no string waits at the node any more, and else it is the same
pub record IsEmptied (old new : Served) : Type 0 where
  pub none : new.site.waiting ≡ []
  pub site : record new.site { waiting = [] } ≡ record old.site { waiting = [] }
  pub unlogged : new.unlogged ≡ old.unlogged
  pub left : new.left ≡ old.left
  pub told : new.told ≡ old.told
