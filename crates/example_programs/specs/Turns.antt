-- Nodes that come in one after another, by tickets that they draw or by their numbers.
use Rattle.std.specs.Prelude.{◌≡◌, ℕ, ◌<◌, true, List, [], ◌∷◌, ◌++◌, Some}
use Rattle.ivy_model.specs.declared.config.Config.{Config}
use Rattle.ivy_model.specs.declared.call.Record.{Record}
use Rattle.ivy_model.specs.stated.Config.{count_len}
use Rattle.ivy_calls.specs.declared.answer.Answer.{Answer}
use Rattle.ivy_calls.specs.Answers.{answers_of}
use Rattle.ivy_calls.specs.Shared.{AreShared}
use Rattle.ivy_sync.specs.excluding.TicketLocks.{idle, turn}
use Rattle.ivy_sync.specs.excluding.Tickets.{no_ticket, ticket}
use Rattle.ivy_sync.specs.Doing.{Enters, arrives, passes}
use Rattle.ivy_sync.specs.HeapWords.{IsHeapWord}
use Rattle.example_programs.specs.declared.turns.ByNumbers.{ByNumbers}
use Rattle.example_programs.specs.declared.turns.ByTickets.{ByTickets}

-- a node drew its ticket, waited for its turn, and gave the turn on
pub record HasDrawn (work : ByTickets) (me : ℕ) (answers : List Answer) (drawn : ℕ) : Type 0 where
  pub inside : List Answer
  pub enters : Enters work.lock.next work.lock.turn drawn [] inside
  pub whole : answers ≡ inside ++ arrives work.lock.turn ∷ []

-- a node waited for its turn, and gave it on
abbrev pub HasWaited : ByNumbers → ℕ → List Answer → ℕ → Type 0
HasWaited work me answers found =
    answers ≡ passes work.turn me found ∷ arrives work.turn ∷ []

-- At no point of the order has the turn of two nodes come.
abbrev pub OneTicketAtATime : Type 0
OneTicketAtATime = (c : Config) (work : ByTickets) (order : List Record) (outs : List ℕ)
    → IsHeapWord c work.lock.next → work.lock.turn < count_len c
    → AreShared c (HasDrawn work) order outs
    → (before after : List Record) → order ≡ before ++ after → (i j : ℕ)
    → (turn work.lock.next work.lock.turn idle (answers_of i before)).inside ≡ true
    → (turn work.lock.next work.lock.turn idle (answers_of j before)).inside ≡ true
    → i ≡ j

-- At no point of the order are two nodes inside.
abbrev pub OneTurnAtATime : Type 0
OneTurnAtATime = (c : Config) (work : ByNumbers) (order : List Record) (outs : List ℕ)
    → work.turn < count_len c → AreShared c (HasWaited work) order outs
    → (before after : List Record) → order ≡ before ++ after → (i j n m : ℕ)
    → (ticket work.turn no_ticket (answers_of i before)).inside ≡ Some n
    → (ticket work.turn no_ticket (answers_of j before)).inside ≡ Some m
    → i ≡ j
