-- The text of a log, read again.
use Rattle.std.specs.Prelude.{◌≡◌, ℕ, ◌<◌, ◌^◌, List, [], ◌∷◌, ◌++◌, All, length, IfSome, Option}
use Rattle.hex.specs.Hex.{IsBytes}
use Rattle.ivy_model.specs.declared.Call.{Call}
use Rattle.ivy_model.specs.declared.Call.TheVariants.{Load, Store, Swap, Cas, FetchAdd, Count, Advance, Await, Alloc, Free}
use Rattle.ivy_model.specs.declared.Reply.{Reply}
use Rattle.ivy_model.specs.declared.Reply.TheVariants.{Value, Done, Refused}
use Rattle.ivy_moves.specs.Events.{Event}
use Rattle.ivy_moves.specs.declared.Event.TheVariants.{Turns, Delivered, Pulsed}
use Rattle.ivy_logs.specs.declared.log.LogHead.{LogHead}
use Rattle.ivy_logs.specs.declared.log.LogKind.{LogKind}
use Rattle.ivy_logs.specs.declared.log.LogKind.TheVariants.{OfProgram, OfOwnCode}
use Rattle.ivy_logs.specs.declared.log.LogEntry.TheVariants.{Did, Asked, Answered, Fetched}
use Rattle.ivy_logs.specs.Entries.{HasSum, LogEntry, SpellsLog, entry_lines}
use Rattle.ivy_logs.specs.Printed.{first_line}
use Rattle.ivy_logs.specs.Spelled.{MayHaveSum, named_kind}

-- a number of 64 bits
abbrev pub IsWide : ℕ → Type 0
IsWide n = n < 2 ^ 64

-- the numbers of a call
abbrev pub numbers_of : Call → List ℕ
numbers_of (Load width addr) = width ∷ addr ∷ []
numbers_of (Store width addr value) = width ∷ addr ∷ value ∷ []
numbers_of (Swap width addr value) = width ∷ addr ∷ value ∷ []
numbers_of (Cas width addr expected value) = width ∷ addr ∷ expected ∷ value ∷ []
numbers_of (FetchAdd width addr value) = width ∷ addr ∷ value ∷ []
numbers_of (Count k) = k ∷ []
numbers_of (Advance k) = k ∷ []
numbers_of (Await k least) = k ∷ least ∷ []
numbers_of (Alloc size) = size ∷ []
numbers_of (Free addr) = addr ∷ []

-- the number in a reply fits 64 bits
abbrev pub IsWideReply : Reply → Type 0
IsWideReply (Value value) = IsWide value
IsWideReply Done = Unit {0}
IsWideReply (Refused code) = IsWide code

-- numbers fit 64 bits, and a string that was delivered has bytes
abbrev pub FitsEvent : Event → Type 0
FitsEvent (Turns count) = IsWide count
FitsEvent (Delivered bytes) = (0 < length bytes) × IsBytes bytes
FitsEvent (Pulsed to) = IsWide to

abbrev pub FitsEntry : LogEntry → Type 0
FitsEntry (Did event) = FitsEvent event
FitsEntry (Asked call) = All IsWide (numbers_of call)
FitsEntry (Answered answer) = IsWideReply answer.reply × All IsWide (numbers_of answer.call)
FitsEntry (Fetched page write) = IsWide page

-- of these a log of a program has events alone
abbrev pub FitsDid : LogEntry → Type 0
FitsDid (Did event) = FitsEvent event
FitsDid (Asked call) = ⊥
FitsDid (Answered answer) = ⊥
FitsDid (Fetched page write) = ⊥

abbrev pub FitsIn : LogKind → LogEntry → Type 0
FitsIn OfProgram = FitsDid
FitsIn OfOwnCode = FitsEntry

pub record FitsHead (kind : LogKind) (h : LogHead) (sum : Option ℕ) : Type 0 where
  pub me : IsWide h.me
  pub nodes : IsWide h.config.nodes
  pub pages : IsWide h.config.pages
  pub page_size : IsWide h.config.page_size
  pub named : h.config.manager ≡ named_kind h.steady h.config.manager
  pub wide : IfSome sum IsWide
  pub may : MayHaveSum kind sum

-- what is written of a node and its entries is the text of a log of them
abbrev pub LogsReadBack : Type 0
LogsReadBack = (kind : LogKind) (head : LogHead) (sum : Option ℕ) (entries : List LogEntry)
    → FitsHead kind head sum → All (FitsIn kind) entries
    → SpellsLog kind (first_line kind head sum ++ entry_lines entries) head entries
    × HasSum kind (first_line kind head sum ++ entry_lines entries) head sum

-- a text is that of one log at most
abbrev pub LogsSpellOne : Type 0
LogsSpellOne = (kind : LogKind) (text : List ℕ) (head head' : LogHead) (entries entries' : List LogEntry)
    → SpellsLog kind text head entries → SpellsLog kind text head' entries'
    → (head ≡ head') × (entries ≡ entries')
