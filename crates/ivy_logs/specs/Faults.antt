-- What the text of a log is refused for.
use Rattle.std.specs.Prelude.{◌≡◌, ◌≢◌, ◌⊎◌, ℕ, ◌+◌, ◌<◌, ◌^◌, List, [], slice_get, Some}
use Rattle.std.specs.List.{after_first, before_first}
use Rattle.std.specs.Str.{NoCharPasses}
use Rattle.std.specs.Str.Lines.{lines}
use Rattle.ivy_model.specs.declared.Fault.{Fault}
use Rattle.ivy_model.specs.declared.Fault.TheVariants.{Memory, ProgramFault}
use Rattle.ivy_model.specs.declared.Reply.{Reply}
use Rattle.ivy_model.specs.declared.Reply.TheVariants.{Value, Done, Refused}
use Rattle.ivy_model.specs.stated.Legal.{HasWidth}
use Rattle.ivy_moves.specs.Events.{Event}
use Rattle.ivy_moves.specs.declared.Event.TheVariants.{Turns, Delivered, Pulsed}
use Rattle.ivy_program.specs.texts.TextWords.{words_of}
use Rattle.ivy_logs.specs.declared.log.LogEntry.TheVariants.{Did, Asked, Answered, Fetched}
use Rattle.ivy_logs.specs.declared.log.LogHead.{LogHead}
use Rattle.ivy_logs.specs.declared.log.LogKind.{LogKind}
use Rattle.ivy_logs.specs.Entries.{LogEntry, SpellsIn}
use Rattle.ivy_logs.specs.Spelled.{HasWholeLines, SpellsHead, is_end}

-- a number of one byte
abbrev pub IsByte : ℕ → Type 0
IsByte n = n < 2 ^ 8

-- the number of a node is one byte, and so is that of a refusal; a call has a width that there is,
-- and a page a number of four bytes
abbrev pub IsEvent : Event → Type 0
IsEvent (Turns count) = Unit {0}
IsEvent (Delivered bytes) = Unit {0}
IsEvent (Pulsed to) = IsByte to

abbrev pub IsReply : Reply → Type 0
IsReply (Value value) = Unit {0}
IsReply Done = Unit {0}
IsReply (Refused code) = IsByte code

abbrev pub IsEntry : LogEntry → Type 0
IsEntry (Did event) = IsEvent event
IsEntry (Asked call) = HasWidth call
IsEntry (Answered answer) = IsReply answer.reply × HasWidth answer.call
IsEntry (Fetched page write) = page < 2 ^ 32

-- own code handed nothing by the entry: it is no call, and no page that is fetched ahead
abbrev pub HandsNothing : LogEntry → Type 0
HandsNothing (Did event) = Unit {0}
HandsNothing (Asked call) = ⊥
HandsNothing (Answered answer) = Unit {0}
HandsNothing (Fetched page write) = ⊥

-- the numbers of a first line are within the bytes that they have
pub record IsHead (h : LogHead) : Type 0 where
  pub me : IsByte h.me
  pub nodes : IsByte h.config.nodes
  pub pages : h.config.pages < 2 ^ 32
  pub page_size : h.config.page_size < 2 ^ 32

-- the words are those of no entry that a log of this kind may have
abbrev pub SpellsNone : LogKind → List (List ℕ) → Type 0
SpellsNone kind words = (e : LogEntry) → IsEntry e → SpellsIn kind words e → ⊥

-- the line has words, and they are those of no entry
abbrev pub IsAtFault : LogKind → List ℕ → Type 0
IsAtFault kind line = (words_of line ≢ []) × SpellsNone kind (words_of line)

-- of these lines the one behind so many others is at fault, and each of those before it that has words says an entry
pub record IsFirstAtFault (kind : LogKind) (texts : List (List ℕ)) (before : ℕ) : Type 0 where
  pub line : List ℕ
  pub there : slice_get texts before ≡ Some line
  pub fault : IsAtFault kind line
  pub first : (i : ℕ) (other : List ℕ) → i < before → slice_get texts i ≡ Some other → words_of other ≢ []
      → (e : LogEntry) × SpellsIn kind (words_of other) e

-- the text has no first line that is whole and says whose log it is
abbrev pub HasNoHead : LogKind → List ℕ → Type 0
HasNoHead kind text = NoCharPasses is_end text
    ⊎ ((h : LogHead) → IsHead h → SpellsHead kind (words_of (before_first is_end text)) h → ⊥)

-- memory was refused, or of these lines this one, counted from 2, is the first at fault
abbrev pub IsFaultAmong : LogKind → List (List ℕ) → Fault → Type 0
IsFaultAmong kind texts fault = (fault ≡ Memory)
    ⊎ ((before : ℕ) × (fault ≡ ProgramFault (before + 2)) × IsFirstAtFault kind texts before)

-- the first line says nothing, or what stands in the whole lines behind it is refused
abbrev pub IsFaultOfLog : LogKind → List ℕ → Fault → Type 0
IsFaultOfLog kind text fault = ((fault ≡ ProgramFault 1) × HasNoHead kind text)
    ⊎ ((whole : List ℕ) × HasWholeLines (after_first is_end text) whole × IsFaultAmong kind (lines whole) fault)
