-- Turns by tickets: who has ticket t awaits that an eventcount is at t, and advances it to leave.
use Rattle.std.specs.Prelude.{◌≡◌, ℕ, ◌+◌, ◌<◌, ◌≤◌, ◌==◌, if◌then◌else◌, List, [], ◌∷◌, ◌++◌}
use Rattle.std.specs.Prelude.{slice_get, Option, Some, None}
use Rattle.ivy_model.specs.declared.config.Config.{Config}
use Rattle.ivy_model.specs.declared.call.CallKind.{CallKind}
use Rattle.ivy_model.specs.declared.call.CallKind.TheVariants.{Advance, Await}
use Rattle.ivy_model.specs.declared.call.Record.{Record}
use Rattle.ivy_model.specs.declared.call.Reply.{Reply}
use Rattle.ivy_model.specs.declared.call.Reply.TheVariants.{Value, Done}
use Rattle.ivy_model.specs.stated.Accesses.{kind_of_call}
use Rattle.ivy_model.specs.stated.Legal.{ServesAll}
use Rattle.ivy_model.specs.stated.Memory.{Memory}
use Rattle.ivy_calls.specs.declared.answer.Answer.{Answer}
use Rattle.ivy_calls.specs.Answers.{answers_of}

-- the ticket by which a node is inside, if it is, and the least that it may use next
pub record Ticket : Type 0 where
  pub inside : Option ℕ
  pub next : ℕ

-- after a call
abbrev pub ticket_by : ℕ → Ticket → CallKind → Reply → Ticket
ticket_by k t (Await j least) (Value found) =
    if j == k then record { inside = Some least; next = least + 1 } else t
ticket_by k t (Advance j) Done = if j == k then record { inside = None; next = t.next } else t
ticket_by k t _ _ = t

abbrev pub ticket_after : ℕ → Ticket → Answer → Ticket
ticket_after k t r = ticket_by k t (kind_of_call r.call) r.reply

-- and after these answers
abbrev pub ticket : ℕ → Ticket → List Answer → Ticket
ticket k t [] = t
ticket k t (r ∷ rs) = ticket k (ticket_after k t r) rs

-- before its first ticket
abbrev pub no_ticket : Ticket
no_ticket = record { inside = None; next = 0 }

-- a node comes in by a ticket of its own that is greater than its earlier ones, and goes out only
-- where it is in
abbrev pub MayTurnBy : ℕ → (ℕ → ℕ) → ℕ → Ticket → CallKind → Reply → Type 0
MayTurnBy k owner i t (Await j least) (Value found) =
    j ≡ k → (owner least ≡ i) × (t.next ≤ least) × (t.inside ≡ None)
MayTurnBy k owner i t (Advance j) Done = j ≡ k → (n : ℕ) × (t.inside ≡ Some n)
MayTurnBy k owner i t _ _ = Unit {0}

abbrev pub MayTurn : ℕ → (ℕ → ℕ) → ℕ → Ticket → Answer → Type 0
MayTurn k owner i t r = MayTurnBy k owner i t (kind_of_call r.call) r.reply

abbrev pub KeepsTickets : ℕ → (ℕ → ℕ) → ℕ → Ticket → List Answer → Type 0
KeepsTickets k owner i t [] = Unit {0}
KeepsTickets k owner i t (r ∷ rs) =
    MayTurn k owner i t r × KeepsTickets k owner i (ticket_after k t r) rs

-- In every order of records that a flat memory makes, at no point are two nodes inside by tickets
-- of their own.
abbrev pub TicketsExclude : Type 0
TicketsExclude = (c : Config) (old new : Memory) (before after : List Record) (k : ℕ)
    (owner : ℕ → ℕ) → ServesAll c old (before ++ after) new → slice_get old.counts k ≡ Some 0
    → ((i : ℕ) → i < c.nodes → KeepsTickets k owner i no_ticket (answers_of i (before ++ after)))
    → (i j n m : ℕ) → (ticket k no_ticket (answers_of i before)).inside ≡ Some n
    → (ticket k no_ticket (answers_of j before)).inside ≡ Some m
    → i ≡ j
