-- A lock by tickets: a fetch-and-add draws the next ticket from a word, an await waits for its turn
-- by an eventcount, and an advance of that gives the turn to the next.
use Rattle.std.specs.Prelude.{◌≡◌, ℕ, ◌<◌, ◌^◌, Bool, true, false, ◌==◌, if◌then◌else◌, IsTrue}
use Rattle.std.specs.Prelude.{List, [], ◌∷◌, ◌++◌, slice_get, Option, Some, None, count_by}
use Rattle.ivy_model.specs.declared.config.Config.{Config}
use Rattle.ivy_model.specs.declared.call.Act.TheVariants.{FetchAdd}
use Rattle.ivy_model.specs.declared.call.CallKind.{CallKind}
use Rattle.ivy_model.specs.declared.call.CallKind.TheVariants.{Word, Advance, Await}
use Rattle.ivy_model.specs.declared.call.Record.{Record}
use Rattle.ivy_model.specs.declared.call.Reply.{Reply}
use Rattle.ivy_model.specs.declared.call.Reply.TheVariants.{Value, Done}
use Rattle.ivy_model.specs.stated.Accesses.{kind_of_call}
use Rattle.ivy_model.specs.stated.Memory.{Memory}
use Rattle.ivy_calls.specs.declared.answer.Answer.{Answer}
use Rattle.ivy_calls.specs.Answers.{answers, answers_of}
use Rattle.ivy_sync.specs.HeapWords.{word, IsHeapWord, is_write_in, LeadsThrough}

-- the ticket that a node has, if it has one, and whether its turn has come
pub record Turn : Type 0 where
  pub ticket : Option ℕ
  pub inside : Bool

-- before a node's first ticket, and between two of them
abbrev pub idle : Turn
idle = record { ticket = None; inside = false }

-- after a ticket was drawn
abbrev pub with_drawn : Turn → Reply → Turn
with_drawn t (Value ticket) = record { ticket = Some ticket; inside = false }
with_drawn t _ = t

-- after an await, or an advance, of eventcount k
abbrev pub with_moved : ℕ → Turn → CallKind → Reply → Turn
with_moved k t (Await j least) (Value found) =
    if j == k then record { ticket = t.ticket; inside = true } else t
with_moved k t (Advance j) Done = if j == k then idle else t
with_moved k t _ _ = t

-- after a call of the node
abbrev pub turn_after : ℕ → ℕ → Turn → Answer → Turn
turn_after a k t r =
    if is_write_in a r.call then with_drawn t r.reply else with_moved k t
    (kind_of_call r.call) r.reply

-- and after these answers
abbrev pub turn : ℕ → ℕ → Turn → List Answer → Turn
turn a k t [] = t
turn a k t (r ∷ rs) = turn a k (turn_after a k t r) rs

-- the call draws a ticket from the word at a
abbrev pub IsDraw : ℕ → CallKind → Type 0
IsDraw a (Word width addr does) = (width ≡ 8) × (addr ≡ a) × (does ≡ FetchAdd 1)
IsDraw a _ = ⊥

-- a node awaits the turn of its own ticket, and gives the turn on where it has come
abbrev pub MayMove : ℕ → Turn → CallKind → Reply → Type 0
MayMove k t (Await j least) (Value found) = j ≡ k → t.ticket ≡ Some least
MayMove k t (Advance j) Done = j ≡ k → t.inside ≡ true
MayMove k t _ _ = Unit {0}

-- in these answers of a node it writes in the word only to draw a ticket, where it has none, and
-- moves by the rule
abbrev pub KeepsTurns : ℕ → ℕ → Turn → List Answer → Type 0
KeepsTurns a k t [] = Unit {0}
KeepsTurns a k t (r ∷ rs) =
    (IsTrue (is_write_in a r.call) → IsDraw a (kind_of_call r.call) × (t.ticket ≡ None))
    × MayMove k t (kind_of_call r.call) r.reply × KeepsTurns a k (turn_after a k t r) rs

-- how many tickets were drawn
abbrev pub draws_of : ℕ → List Answer → ℕ
draws_of a rs = count_by (λ r. is_write_in a r.call) rs

-- In every order of records that a flat memory makes, and in which fewer than 2^64 tickets are
-- drawn, at no point has the turn of two nodes come.
abbrev pub TicketLocksExclude : Type 0
TicketLocksExclude = (c : Config) (old new : Memory) (before after : List Record) (a k : ℕ)
    → LeadsThrough c old (before ++ after) new → IsHeapWord c a → word c old a ≡ 0
    → slice_get old.counts k ≡ Some 0 → draws_of a (answers before) < 2 ^ 64
    → ((i : ℕ) → i < c.nodes → KeepsTurns a k idle (answers_of i (before ++ after)))
    → (i j : ℕ) → (turn a k idle (answers_of i before)).inside ≡ true
    → (turn a k idle (answers_of j before)).inside ≡ true
    → i ≡ j
