-- What the lines of logs say, and how they are written.
use Rattle.std.specs.Prelude.{ℕ, List, [], ◌∷◌, ◌++◌, codes, flat_map, Option}
use Rattle.std.specs.List.{AllZip, before_first, after_first}
use Rattle.std.specs.Str.Lines.{lines}
use Rattle.ivy_model.specs.declared.Call.{Call}
use Rattle.ivy_model.specs.declared.Reply.{Reply}
use Rattle.ivy_model.specs.declared.Reply.TheVariants.{Value, Done, Refused}
use Rattle.ivy_calls.specs.declared.Answer.{Answer}
use Rattle.ivy_moves.specs.Events.{Event}
use Rattle.ivy_moves.specs.declared.Event.TheVariants.{Turns}
use Rattle.ivy_program.specs.texts.Lines.{IsNumberWord}
use Rattle.ivy_program.specs.texts.TextWords.{words_of}
use Rattle.ivy_texts.specs.Printed.{call_text, reply_text, then_number}
use Rattle.ivy_texts.specs.Spelled.{BeginsWith, Names, SpellsCall, worded}
use Rattle.ivy_logs.specs.declared.log.LogHead.{LogHead}
use Rattle.ivy_logs.specs.declared.log.LogKind.{LogKind}
use Rattle.ivy_logs.specs.declared.log.LogKind.TheVariants.{OfProgram, OfOwnCode}
use Rattle.ivy_logs.specs.declared.log.LogEntry as entry
use Rattle.ivy_logs.specs.declared.log.LogEntry.TheVariants.{Did, Asked, Answered, Fetched}
use Rattle.ivy_logs.specs.Printed.{event_line}
use Rattle.ivy_logs.specs.Spelled.{fetch_word, is_end, HasWholeLines, SpellsEvent, SpellsFirst, SpellsHead}

-- an entry, with each string as the list of its bytes
abbrev pub LogEntry : Type 0
LogEntry = entry.LogEntry (List ℕ)

-- the events of the entries, in order: a page that is fetched ahead is asked for in a turn
abbrev pub event_in : LogEntry → List Event
event_in (Did event) = event ∷ []
event_in (Asked call) = []
event_in (Answered answer) = []
event_in (Fetched page write) = Turns 1 ∷ []

abbrev pub events_in : List LogEntry → List Event
events_in entries = flat_map event_in entries

-- the calls that the code made, in order
abbrev pub call_in : LogEntry → List Call
call_in (Did event) = []
call_in (Asked call) = call ∷ []
call_in (Answered answer) = []
call_in (Fetched page write) = []

abbrev pub calls_in : List LogEntry → List Call
calls_in entries = flat_map call_in entries

-- what was answered, in order
abbrev pub answer_in : LogEntry → List Answer
answer_in (Did event) = []
answer_in (Asked call) = []
answer_in (Answered answer) = answer ∷ []
answer_in (Fetched page write) = []

abbrev pub answers_in : List LogEntry → List Answer
answers_in entries = flat_map answer_in entries

-- a number, and words of which this holds after it
abbrev pub Numbered : ℕ → (List (List ℕ) → Type 0) → List (List ℕ) → Type 0
Numbered n P [] = ⊥
Numbered n P (word ∷ words) = IsNumberWord word n × P words

-- the words of a reply, and after them those of the call that had it
abbrev pub SpellsAnswered : List (List ℕ) → Call → Reply → Type 0
SpellsAnswered words call (Value value) =
    BeginsWith (codes "value") (Numbered value (λ rest. SpellsCall rest call)) words
SpellsAnswered words call Done = BeginsWith (codes "done") (λ rest. SpellsCall rest call) words
SpellsAnswered words call (Refused code) =
    BeginsWith (codes "refused") (Numbered code (λ rest. SpellsCall rest call)) words

-- the words of an entry
abbrev pub SpellsEntry : List (List ℕ) → LogEntry → Type 0
SpellsEntry words (Did event) = SpellsEvent words event
SpellsEntry words (Asked call) = BeginsWith (codes "call") (λ rest. SpellsCall rest call) words
SpellsEntry words (Answered answer) = SpellsAnswered words answer.call answer.reply
SpellsEntry words (Fetched page write) =
    BeginsWith (codes "fetch") (Names (fetch_word write) (page ∷ [])) words

-- of these a log of a program has events alone
abbrev pub SpellsDid : List (List ℕ) → LogEntry → Type 0
SpellsDid words (Did event) = SpellsEvent words event
SpellsDid words (Asked call) = ⊥
SpellsDid words (Answered answer) = ⊥
SpellsDid words (Fetched page write) = ⊥

abbrev pub SpellsIn : LogKind → List (List ℕ) → LogEntry → Type 0
SpellsIn OfProgram = SpellsDid
SpellsIn OfOwnCode = SpellsEntry

-- the first line, which is whole, says whose log it is, and each whole line after it that has words says
-- one of the entries, in order
pub record SpellsLog (kind : LogKind) (text : List ℕ) (head : LogHead) (entries : List LogEntry) : Type 0 where
  pub first : SpellsHead kind (words_of (before_first is_end text)) head
  pub whole : List ℕ
  pub cut : HasWholeLines (after_first is_end text) whole
  pub each : AllZip (SpellsIn kind) (worded (lines whole)) entries

-- the first line of the text names this sum, or none
abbrev pub HasSum : LogKind → List ℕ → LogHead → Option ℕ → Type 0
HasSum kind text head sum = SpellsFirst kind (words_of (before_first is_end text)) head sum

-- the line of an entry
abbrev pub entry_line : LogEntry → List ℕ
entry_line (Did event) = event_line event
entry_line (Asked call) = codes "call " ++ call_text call ++ 10 ∷ []
entry_line (Answered answer) =
    reply_text answer.reply ++ codes " " ++ call_text answer.call ++ 10 ∷ []
entry_line (Fetched page write) = codes "fetch " ++ fetch_word write ++ then_number page ++ 10 ∷ []

-- the lines of these entries
abbrev pub entry_lines : List LogEntry → List ℕ
entry_lines entries = flat_map entry_line entries
