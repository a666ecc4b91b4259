-- No two nodes are inside that come in by tickets, or by their numbers.
use Rattle.std.proofs.Common.{◌≡◌, ℕ, ◌+◌, ◌^◌, ◌<◌, ◌≤◌, true, false, if◌then◌else◌, List, [], ◌∷◌, ◌++◌}
use Rattle.std.proofs.Common.{length, Some, refl, sym, ap, subst, ◌∙◌, length-append, arith}
use Rattle.std.specs.List.{slice_index_or}
use Rattle.std.proofs.lemmas.Bool.{both_ways, eq-eqb}
use Rattle.std.proofs.lemmas.List.Sums.{count_by-le-length}
use Rattle.ivy_model.specs.declared.config.Config.{Config}
use Rattle.ivy_model.specs.declared.call.Record.{Record}
use Rattle.ivy_model.specs.declared.call.Reply.TheVariants.{Value}
use Rattle.ivy_model.specs.stated.Accesses.{kind_of_call}
use Rattle.ivy_model.specs.stated.Config.{count_len}
use Rattle.ivy_model.specs.stated.Legal.{ServesAll}
use Rattle.ivy_model.specs.stated.Memory.{first}
use Rattle.ivy_calls.specs.declared.answer.Answer.{Answer}
use Rattle.ivy_calls.specs.Answers.{answers, answers_of}
use Rattle.ivy_calls.specs.Shared.{AreShared}
use Rattle.ivy_calls.proofs.Answers.{answers-append}
use Rattle.ivy_sync.specs.excluding.TicketLocks.{KeepsTurns, Turn, draws_of, idle, turn_after, with_moved}
use Rattle.ivy_sync.specs.excluding.Tickets.{KeepsTickets, Ticket, no_ticket, ticket_after}
use Rattle.ivy_sync.specs.Doing.{arrives, draws, passes}
use Rattle.ivy_sync.specs.HeapWords.{IsHeapWord, LeadsThrough, is_write_in}
use Rattle.ivy_sync.proofs.answers.AnswerTotals.{parts_tally, tally}
use Rattle.ivy_sync.proofs.answers.Cuts.{nodes_there}
use Rattle.ivy_sync.proofs.answers.First.{first_count, first_run, first_word}
use Rattle.ivy_sync.proofs.excluding.Locked.{in_own}
use Rattle.ivy_sync.proofs.excluding.TicketLocks.{ticket_locks-exclude}
use Rattle.ivy_sync.proofs.excluding.Tickets.{tickets-exclude}
use Rattle.example_programs.specs.Turns.{HasDrawn, OneTicketAtATime, OneTurnAtATime}
use Rattle.example_programs.specs.declared.turns.ByTickets.{ByTickets}
use Rattle.example_programs.proofs.Drawing.{tally_all}
use Rattle.example_programs.proofs.Farming.{sum_most}
use Rattle.example_programs.proofs.Summing.{item_at}

-- a ticket that is drawn once, and then its turn
abbrev drawing : ℕ → ℕ → ℕ → ℕ → List Answer
drawing a k drawn found = draws a drawn ∷ passes k drawn found ∷ arrives k ∷ []

drawing_keeps : (a k drawn found : ℕ) → KeepsTurns a k idle (drawing a k drawn found)
drawing_keeps a k drawn found =
    let waits : Turn = record { ticket = Some drawn; inside = false } in
    let inside : Turn = record { ticket = Some drawn; inside = true } in
    let has : turn_after a k idle (draws a drawn) ≡ waits =
    ap (λ b. if b then waits else with_moved k idle (kind_of_call (draws a drawn).call) (Value drawn))
    (in_own a) in
    let comes : turn_after a k waits (passes k drawn found) ≡ inside =
    ap (λ b. if b then inside else waits) (eq-eqb k k refl) in (
      λ _. ((refl, refl, refl), refl),
      tt,
      subst (λ t. KeepsTurns a k t (passes k drawn found ∷ arrives k ∷ [])) (sym has) (
        λ h. absurd (both_ways false refl h),
        λ _. refl,
        subst (λ t. KeepsTurns a k t (arrives k ∷ [])) (sym comes)
            (λ h. absurd (both_ways false refl h), λ _. refl, tt),
      ),
    )

module _ (c : Config) (work : ByTickets) (order : List Record) (outs : List ℕ)
    (place : IsHeapWord c work.lock.next) (count : work.lock.turn < count_len c)
    (shared : AreShared c (HasDrawn work) order outs) where
  abbrev a : ℕ
  a = work.lock.next

  abbrev k : ℕ
  k = work.lock.turn

  run : LeadsThrough c (first c) order shared.legal.0
  run = first_run c order shared.legal.0 shared.config shared.legal.1

  drew : (i : ℕ) → i < c.nodes → (found : ℕ) × (answers_of i order
      ≡ drawing a k (slice_index_or outs i 0) found)
  drew i l =
      let all = shared.all in
      let w = shared.each i (slice_index_or outs i 0) (item_at outs i 0 (omega (arith, l, all))) in
      (w.enters.found, w.whole ∙ ap (λ (l : List Answer). l ++ arrives k ∷ []) w.enters.whole)

  keeps : (i : ℕ) → i < c.nodes → KeepsTurns a k idle (answers_of i order)
  keeps i l =
      let w = drew i l in
      subst (KeepsTurns a k idle) (sym w.1) (drawing_keeps a k (slice_index_or outs i 0) w.0)

  three_each : (i : ℕ) → i < c.nodes → tally (λ _. 1) (answers_of i order) ≤ 3
  three_each i l =
      let all = tally_all (answers_of i order) in
      let three : length (answers_of i order) ≡ 3 = ap length (drew i l).1 in
      omega (arith, all, three)

  -- so few calls are made that the tickets don't run out
  few : (before after : List Record) → order ≡ before ++ after → draws_of a (answers before) < 2 ^ 64
  few before after e =
      let most = sum_most (λ i. tally (λ _. 1) (answers_of i order)) c.nodes 3 three_each in
      let same = parts_tally (λ _. 1) c.nodes order
      (nodes_there c (first c) shared.legal.0 order shared.legal.1) in
      let all = tally_all (answers order) in
      let nodes = shared.config.nodes_to in
      let parts : length (answers order) ≡ length (answers before) + length (answers after) =
      ap (λ rs. length (answers rs)) e ∙ ap length (answers-append before after)
      ∙ length-append (answers before) (answers after) in
      let some = count_by-le-length (λ (r : Answer). is_write_in a r.call) (answers before) in
      omega (arith, most, same, all, nodes, parts, some)

pub one-ticket_at_a_time : OneTicketAtATime
one-ticket_at_a_time c work order outs place count shared before after e i j p q =
    ticket_locks-exclude c (first c) shared.legal.0 before after work.lock.next work.lock.turn
    (subst (λ rs. LeadsThrough c (first c) rs shared.legal.0) e
    (run c work order outs place count shared)) place (first_word c work.lock.next)
    (first_count c work.lock.turn count) (few c work order outs place count shared before after e)
    (λ n l. subst (λ rs. KeepsTurns work.lock.next work.lock.turn idle (answers_of n rs)) e
    (keeps c work order outs place count shared n l)) i j p q

-- a node whose ticket is its number
number_keeps : (k i found : ℕ)
    → KeepsTickets k (λ t. t) i no_ticket (passes k i found ∷ arrives k ∷ [])
number_keeps k i found =
    let inside : Ticket = record { inside = Some i; next = i + 1 } in
    let comes : ticket_after k no_ticket (passes k i found) ≡ inside =
    ap (λ b. if b then inside else no_ticket) (eq-eqb k k refl) in (
      λ _. (refl, omega arith, refl),
      subst (λ t. KeepsTickets k (λ n. n) i t (arrives k ∷ [])) (sym comes) (λ _. (i, refl), tt),
    )

pub one-turn_at_a_time : OneTurnAtATime
one-turn_at_a_time c work order outs count shared before after e =
    tickets-exclude c (first c) shared.legal.0 before after work.turn (λ t. t)
    (subst (λ rs. ServesAll c (first c) rs shared.legal.0) e shared.legal.1)
    (first_count c work.turn count)
    (λ n l.
    let all = shared.all in
    let found : ℕ = slice_index_or outs n 0 in
    let whole = shared.each n found (item_at outs n 0 (omega (arith, l, all))) in
    subst (λ rs. KeepsTickets work.turn (λ t. t) n no_ticket (answers_of n rs)) e
    (subst (KeepsTickets work.turn (λ t. t) n no_ticket) (sym whole)
    (number_keeps work.turn n found)))
