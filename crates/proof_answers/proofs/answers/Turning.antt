-- What a turn does to one node: it records a reply; or the program goes on by itself; or a call
-- begins, or is tried again, or a page is fetched, and what is asked for weighs less than the node
-- weighed before.
use Rattle.std.proofs.Common.{◌≡◌, ◌≢◌, ◌≤◌, ◌<◌, ◌+◌, ◌*◌, ℕ, Bool, true, false, List, [], ◌∷◌, ◌++◌, length, Option, Some, None, if◌then◌else◌, refl, sym, ap, ◌∙◌, subst, arith, inl, inr, nat_lt, slice_get, Ok, Err}
use Rattle.std.proofs.lemmas.Bool.{both_ways, cases_eq}
use Rattle.std.proofs.lemmas.Option.{none-some, same_Some, slice_get_within}
use Rattle.std.proofs.lemmas.List.{length-append}
use Rattle.std.specs.List.{Contains}
use Rattle.ivy_model.specs.declared.Config.{Config}
use Rattle.ivy_model.specs.stated.Config.{IsConfig, count_len}
use Rattle.ivy_model.specs.declared.Call.{Call}
use Rattle.ivy_model.specs.declared.Call.TheVariants as call
use Rattle.ivy_model.specs.declared.Record.{Record}
use Rattle.ivy_model.specs.declared.Reply.{Reply}
use Rattle.ivy_model.specs.declared.Fault.{Fault}
use Rattle.ivy_pagetable.specs.declared.Entry.{Entry}
use Rattle.ivy_pagetable.specs.declared.Entry.TheVariants as entry
use Rattle.ivy_pagetable.specs.declared.Word.{Word}
use Rattle.ivy_pagetable.specs.declared.Word.TheVariants as word
use Rattle.ivy_pagetable.specs.stated.Accesses.{reads, suffices}
use Rattle.ivy_pagetable.specs.stated.Entries.{is_locked, put_offs}
use Rattle.ivy_pagetable.specs.stated.Manager.{Ops}
use Rattle.ivy_pagetable.specs.stated.States.{IdleState}
use Rattle.ivy_pagetable.specs.stated.Tables.{entry_at, page_at, with_entry}
use Rattle.ivy_pagetable.specs.declared.Out.{Out}
use Rattle.ivy_pagetable.specs.stated.Words.{carried_out, needs_write, fetch_word}
use Rattle.ivy_moves.specs.stated.Cores.{Outcome}
use Rattle.ivy_program.specs.stated.Programs.{HandedFetch, Program, Written, Called, fetches_of}
use Rattle.ivy_host.proofs.Turns.{asks-turned, either_fetch}
use Rattle.ivy_host.specs.stated.Fetches.{if_reached, due_of}
use Rattle.ivy_host.specs.stated.Hosts.{Host, turn_of, turned_at, turned_by, begins_as, asks_reply, or_fetches, due, fetch_of, fetched_with}
use Rattle.ivy_host.specs.stated.Sound.{IsSoundHost}
use Rattle.ivy_coherence.specs.stated.Coherent.{Coherent}
use Rattle.ivy_coherence.specs.stated.Fetching.{suits, joined_by, without_page}
use Rattle.ivy_coherence.specs.stated.PageFaults.{Begun, fault_entry, along, hit, faulted, fault_posted, taken_up, waits_beside, fetchable, fetched_as, fetch_begun, fetch}
use Rattle.ivy_coherence.proofs.keeping.Fetched.{fewer_without}
use Rattle.ivy_alloc.specs.declared.HeapCall.{HeapCall}
use Rattle.ivy_alloc.specs.declared.HeapCall.TheVariants as heap_call
use Rattle.ivy_alloc.specs.stated.HeapCalls.{request}
use Rattle.ivy_memory.specs.declared.Asked.{Asked}
use Rattle.ivy_memory.specs.declared.Asked.TheVariants as kinds
use Rattle.ivy_memory.specs.stated.Asking.{asked_of, count_asked}
use Rattle.ivy_memory.specs.stated.Memories.{MemoryFetch, memory_fetched, answered, needed, again, again_unless, in_progress, polled_as, reply_of, reply_at, reply_there, tried_as, without_call}
use Rattle.ivy_memory.proofs.keeping.Polling.{polled_so as polls_as}
use Rattle.ivy_memory.specs.stated.Beside.{nothing_beside}
use Rattle.ivy_coherence.proofs.keeping.Changing.{entry_with}
use Rattle.ivy_coherence.proofs.keeping.EventTable.{fetchable_is}
use Rattle.proof_table.proofs.transitions.RowsJoined.{joined_still}
use Rattle.proof_worlds.proofs.consistency.Beside.{along-kept}
use Rattle.proof_worlds.proofs.refinement.HostTurns.{made_along, number_of, asks, along-net}
use Rattle.proof_worlds.proofs.refinement.HostTurns.{HostTurn, answers, tries_again, goes_on, refuses, asks_for, serves_heap, asks_heap, carries_fetch}
use Rattle.proof_worlds.proofs.progress.Asking.{IsServable}
use Rattle.proof_worlds.proofs.progress.Stopped.{replied_turn, tries}
use Rattle.proof_worlds.proofs.progress.Works.{heavy_of, bare, work_posted}
use Rattle.proof_answers.proofs.answers.Accessing.{Access, is_busy, is_hit, is_fault, is_joined, is_beside, access, entry_to, entry_is, none_put, fault_open, fault_bare, fault_weight, none_there, joined_bare, joined_open, read_join, await_asks}
use Rattle.proof_answers.proofs.answers.Weights.{cost, fault_most, reply_weight, try_weight, call_weight, fetch_weight, host_weight, call_few, call_waits, less_without, open_weight, lock_weight, join_weight, side_weight, join_waits, join_few}

request_weight : (k : HeapCall) → heavy_of cost (request k) ≡ 2
request_weight (heap_call.Alloc size) = refl
request_weight (heap_call.Free addr) = refl

module _ {S : Type 0} (n : Host S) (out : Outcome (Host S)) where
  abbrev before_at : ℕ → Entry
  before_at q = entry_at n.memory.coherence.table q

  abbrev after_at : ℕ → Entry
  after_at q = entry_at out.after.memory.coherence.table q

  -- less is left to be done where a page came counts: at the entry of this page, and beside it
  abbrev IsLess : ℕ → Type 0
  IsLess p = 2 * work_posted cost out.posted + (side_weight out.after + open_weight (after_at p))
      < side_weight n + open_weight (before_at p)

  -- a fetch comes to nothing, or a page is asked for
  pub data FetchDoes (c : Config) : Type 0 where
    for_nothing : out.posted ≡ [] → out.after.memory ≡ n.memory → FetchDoes c
    for_page : (p : ℕ) → p < c.pages → ((q : ℕ) → q ≢ p → after_at q ≡ before_at q)
        → put_offs (after_at p) ≡ put_offs (before_at p) → IsLess p → FetchDoes c

  -- What a turn of a node does.
  pub data TurnDoes (c : Config) : Type 0 where
    records : (r : Record) → out.after.history ≡ n.history ++ r ∷ [] → TurnDoes c
    goes : n.memory.asked ≡ None → out.posted ≡ [] → out.after.memory ≡ n.memory
        → out.after.history ≡ n.history → host_weight out.after ≡ host_weight n → TurnDoes c
    takes : n.used < out.after.used → n.used < length (fetches_of n.process.program)
        → out.after.history ≡ n.history → FetchDoes c → TurnDoes c
    begins : (p : ℕ) → p < c.pages → out.after.history ≡ n.history
        → ((called : Call) → n.memory.asked ≡ Some called → out.after.memory.asked ≡ Some called)
        → ((q : ℕ) → q ≢ p → after_at q ≡ before_at q)
        → put_offs (after_at p) ≡ put_offs (before_at p)
        → work_posted cost out.posted + host_weight out.after < host_weight n → IsLess p
        → TurnDoes c

-- a fetch that is due is the next one
handed_if : (b : Bool) (next fetch : HandedFetch)
    → (if b then None else Some next) ≡ Some fetch → Some next ≡ Some fetch
handed_if true next fetch is = absurd (none-some fetch is)
handed_if false next fetch is = is

reached_next : (count : ℕ) (next : Option HandedFetch) (fetch : HandedFetch)
    → if_reached count next ≡ Some fetch → next ≡ Some fetch
reached_next count None fetch is = is
reached_next count (Some next) fetch is = handed_if (nat_lt count next.after) next fetch is

due_next : (p : Program) (count used : ℕ) (fetch : HandedFetch)
    → due_of p count used ≡ Some fetch → slice_get (fetches_of p) used ≡ Some fetch
due_next (Written instructions) count used fetch is = absurd (none-some fetch is)
due_next (Called rows fetches) count used fetch is =
    reached_next count (slice_get fetches used) fetch is

-- the turn of a node with a call in progress: the call is asked for its reply, or a fetch is
-- carried out
module _ {S : Type 0} (ops : Ops S) (n : Host S) (called : Call)
    (asked : n.memory.asked ≡ Some called) (out : Outcome (Host S)) where
  data Polls : Type 0 where
    polled_so : begins_as n called (polled_as ops n.memory called (reply_at n.memory)) ≡ Some out
        → Polls
    fetched_so : (fetch : HandedFetch) → slice_get (fetches_of n.process.program) n.used ≡ Some fetch
        → out ≡ fetched_with n (fetch_of ops n fetch) → Polls

  polled_is : turned_at ops n n.memory.asked
      ≡ begins_as n called (polled_as ops n.memory called (reply_at n.memory))
  polled_is = ap (turned_at ops n) asked ∙ ap (begins_as n called) (polls_as ops n.memory called asked)

  by_poll : (fetch : HandedFetch) → slice_get (fetches_of n.process.program) n.used ≡ Some fetch
      → (r : Option (Outcome (Host S))) → asks_reply ops n n.memory.asked ≡ r
      → or_fetches ops n fetch r ≡ Some out → Polls
  by_poll fetch next (Some o) is e =
      polled_so (sym polled_is ∙ asks-turned ops n n.memory.asked o is ∙ e)
  by_poll fetch next None is e =
      fetched_so fetch next (sym (same_Some (fetched_with n (fetch_of ops n fetch)) out e))

  by_due : (d : Option HandedFetch) → due n ≡ d → turned_by ops n d ≡ Some out → Polls
  by_due None none e = polled_so (sym polled_is ∙ e)
  by_due (Some fetch) is e =
      by_poll fetch
      (due_next n.process.program
      (n.process.state.place + length (in_progress n.memory.asked n.memory.along)) n.used fetch is)
      (asks_reply ops n n.memory.asked) refl e

  polls : turn_of ops n ≡ Some out → Polls
  unfolding turn_of
  polls is = by_due (due n) refl is

-- an await asks for no call of the heap
no_heap : (b : Bool) (v : Word) (fault : Fault) (h : HeapCall)
    → count_asked (if b then Ok v else Err fault) ≡ kinds.Heap h → ⊥
no_heap true v fault h is = absurd cc
no_heap false v fault h is = absurd cc

module _ {S : Type 0} (ops : Ops S) (c : Config) (limits : IsConfig c) (x : ℕ) (n : Host S)
    (good : IsSoundHost ops c x n) (served : IsServable c n) (out : Outcome (Host S)) where
  abbrev k : Coherent S
  k = n.memory.coherence

  entries_many : length k.table.entries ≡ c.pages
  entries_many =
      good.memory.coherent.entries ∙ ap (λ (d : Config). d.pages) good.config

  -- what was put at one page
  module _ (page : ℕ) (inside : page < c.pages) (e : Entry) where
    abbrev written_at : ℕ → Entry
    written_at q = entry_at (with_entry k.table page e) q

    written_here : written_at page ≡ e
    written_here =
        elim (entry_with k.table page e page (let a = entries_many in omega (arith, a, inside))) [
          | inl y ↦ y.1
          | inr y ↦ absurd (y.0 refl)
        ]

    written_there : (q : ℕ) → q ≢ page → written_at q ≡ entry_at k.table q
    written_there q ne =
        elim (entry_with k.table page e q (let a = entries_many in omega (arith, a, inside))) [
          | inl y ↦ absurd (ne y.0)
          | inr y ↦ y.1
        ]

  -- a call that begins
  module _ (called : Call) (page : ℕ) (w : Word) (idle : n.memory.asked ≡ None)
      (inside : page < c.pages) where
    abbrev comes_of : Begun S → Option (Outcome (Host S))
    comes_of b =
        begins_as n called (needed n.memory called (made_along n page w) (number_of n) b b.need)

    no_call : (other : Call) → n.memory.asked ≡ Some other → ⊥
    no_call other is = none-some other (sym idle ∙ is)

    full_weight : host_weight n ≡ 2 * fault_most + 2 * cost + 3 + fetch_weight n
    full_weight =
        ap (λ a. call_weight a (entry_at k.table 0) k.locked k.done + fetch_weight n) idle

    hit_begins : (o : Option Reply)
        → begins_as n called (answered n.memory called (number_of n) (hit ops k page w) o)
        ≡ Some out → TurnDoes n out c
    hit_begins (Some r) is =
        records _ (ap (λ (z : Outcome (Host S)). z.after.history) (sym (same_Some _ out is)))
    hit_begins None is =
        subst (λ z. TurnDoes n z c) (same_Some _ out is)
        (begins page inside refl (λ other at. absurd (no_call other at)) (λ q ne. refl) refl
        (let a = call_few called (entry_at k.table 0) k.locked k.done in
        let b = full_weight in
        omega (arith, a, b))
        (let a = call_few called (entry_at k.table 0) k.locked k.done in
        let b = full_weight in
        let d = join_few (Some called) k.locked (entry_at k.table 0) in
        omega (arith, a, b, d)))

    fault_begins : (s : IdleState) → entry_at k.table page ≡ entry.Idle s
        → comes_of (faulted ops k page w (number_of n) s) ≡ Some out → TurnDoes n out c
    fault_begins s at is =
        subst (λ z. TurnDoes n z c) (same_Some _ out is)
        (begins page inside refl (λ other was. absurd (no_call other was))
        (λ q ne. same_at q ∙ written_there page inside (fault_entry w (number_of n) s) q ne)
        (ap put_offs (same_at page ∙ written_here page inside (fault_entry w (number_of n) s))
        ∙ none_put ops k page w (number_of n) s ∙ sym (ap put_offs at))
        (let a = call_few called (entry_at (along words kept).table 0) (along words kept).locked
        (along words kept).done in
        let b = full_weight in
        let d = fault_weight ops k page w (number_of n) s in
        let e : length (along words kept).fetched ≡ length k.fetched =
        ap length (along-net words kept).fetched in
        omega (arith, a, b, d, e))
        (let a = call_few called (entry_at (along words kept).table 0) (along words kept).locked
        (along words kept).done in
        let b = full_weight in
        let d = fault_weight ops k page w (number_of n) s in
        let e : length (along words kept).fetched ≡ length k.fetched =
        ap length (along-net words kept).fetched in
        let f : lock_weight (along words kept).locked ≡ 2 * fault_most + 3 =
        ap lock_weight (along-net words kept).locked in
        let g : join_weight (Some called) (along words kept).locked
        (entry_at (along words kept).table 0) ≡ 0 =
        ap (λ l. join_weight (Some called) l (entry_at (along words kept).table 0))
        (along-net words kept).locked
        ∙ join_waits (Some called) page (entry_at (along words kept).table 0) in
        let h : open_weight (entry_at (along words kept).table page) ≡ 0 =
        ap open_weight
        (same_at page ∙ written_here page inside (fault_entry w (number_of n) s))
        ∙ fault_open ops k page w (number_of n) s in
        let i : open_weight (entry_at k.table page) ≡ 2 * fault_most + 3 = ap open_weight at in
        omega (arith, a, b, d, e, f, g, h, i)))
      where
        -- the words that wait along leave the table as it is
        words : List Word
        words = (made_along n page w).words

        kept : Coherent S
        kept = (faulted ops k page w (number_of n) s).after

        same_at : (q : ℕ) → entry_at (along words kept).table q
            ≡ entry_at (with_entry k.table page (fault_entry w (number_of n) s)) q
        same_at q = ap (λ t. entry_at t q) (along-kept words kept).table

    joined_begins : (e : Entry) → entry_at k.table page ≡ e
        → comes_of (taken_up ops k page w e) ≡ Some out → TurnDoes n out c
    joined_begins e at is =
        subst (λ z. TurnDoes n z c) (same_Some _ out is)
        (begins page inside refl (λ other was. absurd (no_call other was))
        (λ q ne. same_at q ∙ written_there page inside (joined_by e w) q ne)
        (ap put_offs (same_at page ∙ written_here page inside (joined_by e w))
        ∙ (joined_still e w).put_off ∙ sym (ap put_offs at))
        (let a = call_few called (entry_at (along words kept).table 0) (along words kept).locked
        (along words kept).done in
        let b = full_weight in
        let d : length (along words kept).fetched ≡ length (without_page page k.fetched) =
        ap length (along-net words kept).fetched in
        let f = fewer_without page k.fetched in
        omega (arith, a, b, d, f))
        (let a = call_few called (entry_at (along words kept).table 0) (along words kept).locked
        (along words kept).done in
        let b = full_weight in
        let d : length (along words kept).fetched ≡ length (without_page page k.fetched) =
        ap length (along-net words kept).fetched in
        let f = fewer_without page k.fetched in
        let g : lock_weight (along words kept).locked ≡ 2 * fault_most + 3 =
        ap lock_weight (along-net words kept).locked in
        let h : join_weight (Some called) (along words kept).locked
        (entry_at (along words kept).table 0) ≡ 0 =
        ap (λ l. join_weight (Some called) l (entry_at (along words kept).table 0))
        (along-net words kept).locked
        ∙ join_waits (Some called) page (entry_at (along words kept).table 0) in
        let i : open_weight (entry_at (along words kept).table page)
        ≡ open_weight (entry_at k.table page) =
        ap open_weight (same_at page ∙ written_here page inside (joined_by e w))
        ∙ joined_open e w ∙ sym (ap open_weight at) in
        omega (arith, a, b, d, f, g, h, i)))
      where
        words : List Word
        words = (made_along n page w).words

        kept : Coherent S
        kept = (taken_up ops k page w e).after

        same_at : (q : ℕ) → entry_at (along words kept).table q
            ≡ entry_at (with_entry k.table page (joined_by e w)) q
        same_at q = ap (λ t. entry_at t q) (along-kept words kept).table

    beside_begins : comes_of (waits_beside ops k) ≡ Some out → TurnDoes n out c
    beside_begins is =
        subst (λ z. TurnDoes n z c) (same_Some _ out is)
        (begins page inside refl (λ other at. absurd (no_call other at)) (λ q ne. refl) refl
        (let a = call_few called (entry_at k.table 0) k.locked k.done in
        let b = full_weight in
        omega (arith, a, b))
        (let a = call_few called (entry_at k.table 0) k.locked k.done in
        let b = full_weight in
        let d = join_few (Some called) k.locked (entry_at k.table 0) in
        omega (arith, a, b, d)))

    access_begins : (b : Begun S) → Access ops k page w (number_of n) b → comes_of b ≡ Some out
        → TurnDoes n out c
    access_begins b (is_busy same) is =
        absurd (none-some out (sym (ap comes_of same) ∙ is))
    access_begins b (is_hit same) is =
        hit_begins (reply_of (carried_out w (page_at k.table page)).out)
        (sym (ap comes_of same) ∙ is)
    access_begins b (is_fault s at short same) is =
        fault_begins s at (sym (ap comes_of same) ∙ is)
    access_begins b (is_joined e at lock fits same) is =
        joined_begins e at (sym (ap comes_of same) ∙ is)
    access_begins b (is_beside same) is = beside_begins (sym (ap comes_of same) ∙ is)

  -- where an entry is written at which no lost copy costs anything, page 0 costs no more
  bare_written : (page : ℕ) (inside : page < c.pages) (e : Entry)
      → bare cost e ≤ bare cost (entry_at k.table page)
      → bare cost (entry_at (with_entry k.table page e) 0) ≤ bare cost (entry_at k.table 0)
  bare_written page inside e less = elim (cases_eq 0 page) [
    | inl first ↦
        subst (λ q. bare cost (entry_at (with_entry k.table page e) q) ≤ bare cost (entry_at k.table q))
        (sym first)
        (let a = ap (bare cost) (written_here page inside e) in omega (arith, a, less))
    | inr ne ↦ (let a = ap (bare cost) (written_there page inside e 0 ne) in omega (arith, a))
  ]

  -- In a turn that carries out a fetch no await is tried that may not read page 0: it asks for a
  -- copy first.
  module _ (turned : turn_of ops n ≡ Some out) (uses : out.after.used ≡ n.used + 1) where
    not_used : (o : Outcome (Host S)) → turn_of ops n ≡ Some o → o.after.used ≡ n.used → ⊥
    not_used o is same =
        let a : o.after.used ≡ out.after.used =
        ap (λ (z : Outcome (Host S)). z.after.used) (same_Some o out (sym is ∙ turned)) in
        omega (arith, a, same, uses)

    unreplied : (called : Call) → n.memory.asked ≡ Some called → (r : Option Reply)
        → reply_at n.memory ≡ r → reply_at n.memory ≡ None
    unreplied called asked None is = is
    unreplied called asked (Some r) is =
        absurd (not_used _ (replied_turn ops n called asked r is) refl)

    await_reads : (j least : ℕ) → n.memory.asked ≡ Some (call.Await j least) → k.locked ≡ None
        → (s : IdleState) → entry_at k.table 0 ≡ entry.Idle s → (b : Bool) → reads s.access ≡ b
        → b ≡ true
    await_reads j least asked free s at true is = refl
    await_reads j least asked free s at false is =
        absurd (by_kind (asked_of c (call.Await j least)) refl)
      where
        by_kind : (a : Asked) → asked_of c (call.Await j least) ≡ a → ⊥
        by_kind (kinds.Refused code) of = served (call.Await j least) code asked of
        by_kind (kinds.Heap h) of =
            no_heap (nat_lt j (count_len c)) (word.Await (8 * j) least) _ h of
        by_kind (kinds.Word page w) of =
            let first = await_asks c j least page w of in
            not_used _
            (tries ops n (call.Await j least) asked c good.config
            (unreplied (call.Await j least) asked (reply_at n.memory) refl) free page w of s false
            (ap (entry_at k.table) first.0 ∙ at) (ap (suffices s.access) first.1 ∙ is) _ refl)
            refl

  -- a page is fetched, or is not
  module _ (fetch : HandedFetch) (turned : turn_of ops n ≡ Some out)
      (uses : out.after.used ≡ n.used + 1) where
    abbrev FetchedSo : MemoryFetch S → Type 0
    FetchedSo f = FetchDoes n (fetched_with n f) c

    abbrev number : ℕ
    number = length n.history + 1

    module _ (inside : fetch.page < n.memory.coherence.config.pages) (s : IdleState)
        (at : entry_at k.table fetch.page ≡ entry.Idle s)
        (short : suffices s.access (fetch_word fetch.write) ≡ false) where
      abbrev fetched_entry : Entry
      fetched_entry = fault_entry (fetch_word fetch.write) number s

      -- the entry of page 0 then
      abbrev new : Entry
      new = entry_at (with_entry k.table fetch.page fetched_entry) 0

      within : fetch.page < c.pages
      within =
          (let a = ap (λ (d : Config). d.pages) good.config in omega (arith, a, inside))

      asks_page : FetchedSo (record {
        begun = true;
        after =
            record n.memory { coherence = (fetch_begun ops k fetch.page fetch.write number s).after };
        posted = (fetch_begun ops k fetch.page fetch.write number s).posted;
      })
      asks_page =
          for_page fetch.page within (written_there fetch.page within fetched_entry)
          (ap put_offs (written_here fetch.page within fetched_entry)
          ∙ none_put ops k fetch.page (fetch_word fetch.write) number s ∙ sym (ap put_offs at))
          (let a = fault_weight ops k fetch.page (fetch_word fetch.write) number s in
          let b : length (k.fetched ++ fetch.page ∷ []) ≡ length k.fetched + 1 =
          length-append k.fetched (fetch.page ∷ []) in
          let d : open_weight (entry_at (with_entry k.table fetch.page fetched_entry) fetch.page)
          ≡ 0 =
          ap open_weight (written_here fetch.page within fetched_entry)
          ∙ fault_open ops k fetch.page (fetch_word fetch.write) number s in
          let e : open_weight (entry_at k.table fetch.page) ≡ 2 * fault_most + 3 =
          ap open_weight at in
          let f = same_call n.memory.asked in
          let g = same_join in
          omega (arith, a, b, d, e, f, g))
        where
          bares : bare cost (entry_at (with_entry k.table fetch.page fetched_entry) 0)
              ≤ bare cost (entry_at k.table 0)
          bares =
              bare_written fetch.page within fetched_entry
              (let a = fault_bare ops k fetch.page (fetch_word fetch.write) number s in
              omega (arith, a))

          same_call : (a : Option Call)
              → call_weight a new k.locked k.done
              ≤ call_weight a (entry_at k.table 0) k.locked k.done
          same_call None = omega arith
          same_call (Some (call.Await j least)) = bares
          same_call (Some other) = omega arith

          -- an entry that is to be written suits no await
          writes_none : (j least : ℕ) (b o : Bool) → b ≡ true
              → join_weight (Some (call.Await j least)) None
              (entry_to ops k fetch.page (fetch_word fetch.write) number s b o) ≡ 0
          writes_none j least true true is = refl
          writes_none j least true false is = refl
          writes_none j least false o is = absurd (both_ways false refl is)

          by_kind : (j least : ℕ) → n.memory.asked ≡ Some (call.Await j least) → k.locked ≡ None
              → fetch.page ≡ 0 → (b : Bool) → fetch.write ≡ b
              → join_weight (Some (call.Await j least)) None fetched_entry ≡ 0
          by_kind j least asked free first true is =
              ap (join_weight (Some (call.Await j least)) None)
              (entry_is ops k fetch.page (fetch_word fetch.write) number s
              (needs_write (fetch_word fetch.write)) s.owner)
              ∙ writes_none j least (needs_write (fetch_word fetch.write)) s.owner
              (ap (λ b. needs_write (fetch_word b)) is)
          by_kind j least asked free first false is =
              absurd (both_ways (reads s.access)
              (sym (ap (λ b. suffices s.access (fetch_word b)) is) ∙ short)
              (await_reads turned uses j least asked free s
              (ap (entry_at k.table) (sym first) ∙ at) (reads s.access) refl))

          joins : (a : Option Call) → n.memory.asked ≡ a → (l : Option ℕ) → k.locked ≡ l
              → join_weight a l new ≤ join_weight a l (entry_at k.table 0)
          joins None is l free = omega arith
          joins (Some (call.Await j least)) is (Some p) free = omega arith
          joins (Some (call.Await j least)) is None free = elim (cases_eq 0 fetch.page) [
            | inr ne ↦
                (let a = ap (join_weight (Some (call.Await j least)) None)
                (written_there fetch.page within fetched_entry 0 ne) in
                omega (arith, a))
            | inl first ↦
                (let a : new ≡ fetched_entry =
                subst (λ p. entry_at (with_entry k.table fetch.page fetched_entry) p ≡ fetched_entry)
                (sym first) (written_here fetch.page within fetched_entry) in
                let b = ap (join_weight (Some (call.Await j least)) None) a in
                let d = by_kind j least is free (sym first) fetch.write refl in
                omega (arith, b, d))
          ]
          joins (Some other) is l free = omega arith

          same_join : join_weight n.memory.asked k.locked new
              ≤ join_weight n.memory.asked k.locked (entry_at k.table 0)
          same_join = joins n.memory.asked refl k.locked refl

    by_room : fetch.page < n.memory.coherence.config.pages → (o : Option IdleState)
        → fetchable k fetch.page fetch.write ≡ o
        → FetchedSo (record {
          begun = (fetched_as ops k fetch.page fetch.write number o).begun;
          after =
              record n.memory { coherence = (fetched_as ops k fetch.page fetch.write number o).after };
          posted = (fetched_as ops k fetch.page fetch.write number o).posted;
        })
    by_room inside None is = for_nothing refl refl
    by_room inside (Some s) is =
        let may = fetchable_is k fetch.page fetch.write s is in
        asks_page inside s may.is may.short

    where_may : fetch.page < n.memory.coherence.config.pages
        → FetchedSo (memory_fetched ops n.memory fetch.page fetch.write number)
    unfolding fetch
    where_may inside = by_room inside (fetchable k fetch.page fetch.write) refl

    fetched_does : FetchedSo (fetch_of ops n fetch)
    fetched_does =
        either_fetch ops FetchedSo n fetch (for_nothing refl refl)
        (λ inside below. where_may inside)

  fetch_does : turn_of ops n ≡ Some out → (fetch : HandedFetch)
      → slice_get (fetches_of n.process.program) n.used ≡ Some fetch
      → out ≡ fetched_with n (fetch_of ops n fetch) → TurnDoes n out c
  fetch_does turned fetch next is =
      let low = slice_get_within (fetches_of n.process.program) n.used fetch next in
      let used : out.after.used ≡ n.used + 1 =
      ap (λ (z : Outcome (Host S)). z.after.used) is in
      takes (omega (arith, used)) low (ap (λ (z : Outcome (Host S)). z.after.history) is)
      (subst (λ z. FetchDoes n z c) (sym is) (fetched_does fetch turned used))

  -- a call that is tried again
  module _ (called : Call) (page : ℕ) (w : Word) (asked : n.memory.asked ≡ Some called)
      (none : reply_at n.memory ≡ None) (free : k.locked ≡ None)
      (of : asked_of c called ≡ kinds.Word page w) (inside : page < c.pages) where
    abbrev tried : Begun S → Option (Outcome (Host S))
    tried b =
        begins_as n called
        (again n.memory
        (needed (without_call n.memory) called nothing_beside n.memory.number b b.need) b.need)

    before : host_weight n
        ≡ call_weight (Some called) (entry_at k.table 0) k.locked k.done + fetch_weight n
    before =
        ap (λ a. call_weight a (entry_at k.table 0) k.locked k.done + fetch_weight n) asked

    still_asked : (other : Call) → n.memory.asked ≡ Some other → Some called ≡ Some other
    still_asked other was = sym asked ∙ was

    hit_again : (r : Option Reply)
        → begins_as n called (again_unless n.memory
        (answered (without_call n.memory) called n.memory.number
        (hit ops (without_call n.memory).coherence page w) r) r) ≡ Some out → TurnDoes n out c
    hit_again None is = absurd (none-some out is)
    hit_again (Some r) is =
        records _ (ap (λ (z : Outcome (Host S)). z.after.history) (sym (same_Some _ out is)))

    module _ (s : IdleState) (at : entry_at k.table page ≡ entry.Idle s)
        (short : suffices s.access w ≡ false) where
      abbrev e : Entry
      e = fault_entry w n.memory.number s

      -- what it asks for weighs less than it did
      lighter : (a : Call) → asked_of c a ≡ kinds.Word page w → (answer : Option Out)
          → work_posted cost
          (fault_posted ops (without_call n.memory).coherence page w n.memory.number s)
          + call_weight (Some a) (entry_at (with_entry k.table page e) 0) (Some page) answer
          < call_weight (Some a) (entry_at k.table 0) k.locked k.done
      lighter (call.Await j least) of_await answer =
          let is = await_asks c j least page w of_await in
          let first : entry_at (with_entry k.table page e) 0 ≡ e =
          subst (λ p. entry_at (with_entry k.table page e) p ≡ e) is.0 (written_here page inside e) in
          let unread : reads s.access ≡ false = sym (ap (suffices s.access) is.1) ∙ short in
          let was : bare cost (entry_at k.table 0) ≡ cost =
          ap (bare cost) (subst (λ p. entry_at k.table p ≡ entry.Idle s) is.0 at)
          ∙ ap (λ b. if b then 0 else cost) unread in
          let now : bare cost (entry_at (with_entry k.table page e) 0) ≡ 0 =
          ap (bare cost) first
          ∙ fault_bare ops (without_call n.memory).coherence page w n.memory.number s in
          let posts : work_posted cost
          (fault_posted ops (without_call n.memory).coherence page w n.memory.number s) ≡ 2 =
          ap (λ v. work_posted cost
          (fault_posted ops (without_call n.memory).coherence page v n.memory.number s)) is.1 in
          omega (arith, was, now, posts)
      lighter a of_other answer =
          let was : try_weight k.locked k.done ≡ fault_most + 1 =
          ap (λ l. try_weight l k.done) free
          ∙ ap reply_weight (none_there _ (reply_there k.done) none) in
          let posts = fault_weight ops (without_call n.memory).coherence page w n.memory.number s in
          omega (arith, was, posts)

      fault_again : tried (faulted ops (without_call n.memory).coherence page w n.memory.number s)
          ≡ Some out → TurnDoes n out c
      fault_again is =
          subst (λ z. TurnDoes n z c) (same_Some _ out is)
          (begins page inside refl still_asked
          (written_there page inside e)
          (ap put_offs (written_here page inside e)
          ∙ none_put ops (without_call n.memory).coherence page w n.memory.number s
          ∙ sym (ap put_offs at))
          (let a = lighter called of None in
          let b = before in
          omega (arith, a, b))
          (let a = lighter called of None in
          let b = before in
          let d : lock_weight k.locked ≡ 0 = ap lock_weight free in
          let f : join_weight (Some called) (Some page) (entry_at (with_entry k.table page e) 0)
          ≡ 0 =
          join_waits (Some called) page (entry_at (with_entry k.table page e) 0) in
          let g : open_weight (entry_at (with_entry k.table page e) page) ≡ 0 =
          ap open_weight (written_here page inside e)
          ∙ fault_open ops (without_call n.memory).coherence page w n.memory.number s in
          let h : open_weight (entry_at k.table page) ≡ 2 * fault_most + 3 = ap open_weight at in
          omega (arith, a, b, d, f, g, h)))

    joined_again : (z : Entry) → entry_at k.table page ≡ z → is_locked z ≡ true
        → suits z (needs_write w) ≡ true
        → tried (taken_up ops (without_call n.memory).coherence page w z) ≡ Some out
        → TurnDoes n out c
    joined_again z at lock fits is =
        subst (λ y. TurnDoes n y c) (same_Some _ out is)
        (begins page inside refl still_asked
        (written_there page inside (joined_by z w))
        (ap put_offs (written_here page inside (joined_by z w))
        ∙ (joined_still z w).put_off ∙ sym (ap put_offs at))
        (let a = call_waits (Some called) (entry_at k.table 0)
        (entry_at (with_entry k.table page (joined_by z w)) 0) page k.locked k.done None
        (bare_written page inside (joined_by z w)
        (let j = joined_bare z w in let l = ap (bare cost) at in omega (arith, j, l))) in
        let b = before in
        let d = less_without page k.fetched among in
        omega (arith, a, b, d))
        (let a = joins_less called of in
        let b = before in
        let d = less_without page k.fetched among in
        let f : lock_weight k.locked ≡ 0 = ap lock_weight free in
        let g : join_weight (Some called) (Some page)
        (entry_at (with_entry k.table page (joined_by z w)) 0) ≡ 0 =
        join_waits (Some called) page (entry_at (with_entry k.table page (joined_by z w)) 0) in
        let h : open_weight (entry_at (with_entry k.table page (joined_by z w)) page)
        ≡ open_weight (entry_at k.table page) =
        ap open_weight (written_here page inside (joined_by z w))
        ∙ joined_open z w ∙ sym (ap open_weight at) in
        let i : join_weight n.memory.asked k.locked (entry_at k.table 0)
        ≡ join_weight (Some called) None (entry_at k.table 0) =
        ap (λ x. join_weight x k.locked (entry_at k.table 0)) asked
        ∙ ap (λ l. join_weight (Some called) l (entry_at k.table 0)) free in
        omega (arith, a, b, d, f, g, h, i)))
      where
        -- the call pays for the entry
        joins_less : (a : Call) → asked_of c a ≡ kinds.Word page w
            → 2 * call_weight (Some a) (entry_at (with_entry k.table page (joined_by z w)) 0)
            (Some page) None + (2 * fault_most + 2)
            ≤ 2 * call_weight (Some a) (entry_at k.table 0) k.locked k.done
            + join_weight (Some a) None (entry_at k.table 0)
        joins_less (call.Await j least) of_await =
            let is = await_asks c j least page w of_await in
            let first : entry_at k.table 0 ≡ z =
            subst (λ p. entry_at k.table p ≡ z) is.0 at in
            let suited : suits z false ≡ true =
            sym (ap (λ v. suits z (needs_write v)) is.1) ∙ fits in
            let x : join_weight (Some (call.Await j least)) None (entry_at k.table 0)
            ≡ 2 * fault_most + 2 =
            ap (join_weight (Some (call.Await j least)) None) first ∙ read_join z j least suited in
            let y = bare_written page inside (joined_by z w)
            (let m = joined_bare z w in let l = ap (bare cost) at in omega (arith, m, l)) in
            omega (arith, x, y)
        joins_less a of_other =
            let was : try_weight k.locked k.done ≡ fault_most + 1 =
            ap (λ l. try_weight l k.done) free
            ∙ ap reply_weight (none_there _ (reply_there k.done) none) in
            omega (arith, was)

        among : Contains k.fetched page
        among = elim (good.memory.coherent.others page (ap is_locked at ∙ lock)) [
          | inl waits ↦ absurd (none-some page (sym free ∙ waits))
          | inr is_among ↦ is_among
        ]

    by_access : (b : Begun S)
        → Access ops (without_call n.memory).coherence page w n.memory.number b → tried b ≡ Some out
        → TurnDoes n out c
    by_access b (is_busy same) is = absurd (none-some out (sym (ap tried same) ∙ is))
    by_access b (is_hit same) is =
        hit_again (reply_of (carried_out w (page_at k.table page)).out) (sym (ap tried same) ∙ is)
    by_access b (is_fault s at short same) is =
        fault_again s at short (sym (ap tried same) ∙ is)
    by_access b (is_joined z at lock fits same) is =
        joined_again z at lock fits (sym (ap tried same) ∙ is)
    by_access b (is_beside same) is = absurd (none-some out (sym (ap tried same) ∙ is))

    try_again : turn_of ops n ≡ Some out → TurnDoes n out c
    try_again turned = by_polls (polls ops n called asked out turned)
      where
        by_polls : Polls ops n called asked out → TurnDoes n out c
        by_polls (fetched_so fetch next is) = fetch_does turned fetch next is
        by_polls (polled_so is) =
            by_access _
            (access ops (without_call n.memory).coherence page w n.memory.number)
            (sym (ap (λ o. begins_as n called (polled_as ops n.memory called o)) none
            ∙ ap (λ d. begins_as n called (tried_as ops n.memory called (asked_of d called))) good.config
            ∙ ap (λ a. begins_as n called (tried_as ops n.memory called a)) of) ∙ is)

  pub turn_does : HostTurn ops c n out → turn_of ops n ≡ Some out → TurnDoes n out c
  turn_does (answers called r asked there is) turned =
      records _ (ap (λ (z : Outcome (Host S)). z.after.history) is)
  turn_does (tries_again called page w asked none free of inside lies is) turned =
      try_again called page w asked none free
      (subst (λ d. asked_of d called ≡ kinds.Word page w) good.config of) inside turned
  turn_does (goes_on s idle step is) turned =
      goes idle (ap (λ (z : Outcome (Host S)). z.posted) is)
      (ap (λ (z : Outcome (Host S)). z.after.memory) is)
      (ap (λ (z : Outcome (Host S)). z.after.history) is)
      (ap (λ (z : Outcome (Host S)). host_weight z.after) is)
  turn_does (refuses called code idle step refusal is) turned =
      records _ (ap (λ (z : Outcome (Host S)). z.after.history) is)
  turn_does (asks_for called page w idle step of inside lies few is) turned =
      access_begins called page w idle inside (asks ops n page w)
      (access ops k page w (number_of n)) is
  turn_does (serves_heap called h heap idle step of there is) turned =
      records _ (ap (λ (z : Outcome (Host S)). z.after.history) is)
  turn_does (asks_heap called h idle step of away is) turned =
      subst (λ z. TurnDoes n z c) (sym is)
      (begins 0 (let a = limits.pages_from in omega (arith, a)) refl
      (λ other was. absurd (none-some other (sym idle ∙ was))) (λ q ne. refl) refl
      (let a = call_few called (entry_at k.table 0) k.locked k.done in
      let b : host_weight n ≡ 2 * fault_most + 2 * cost + 3 + fetch_weight n =
      ap (λ z. call_weight z (entry_at k.table 0) k.locked k.done + fetch_weight n) idle in
      let d = request_weight h in
      omega (arith, a, b, d))
      (let a = call_few called (entry_at k.table 0) k.locked k.done in
      let b : host_weight n ≡ 2 * fault_most + 2 * cost + 3 + fetch_weight n =
      ap (λ z. call_weight z (entry_at k.table 0) k.locked k.done + fetch_weight n) idle in
      let d = request_weight h in
      let f = join_few (Some called) k.locked (entry_at k.table 0) in
      omega (arith, a, b, d, f)))
  turn_does (carries_fetch fetch next is) turned = fetch_does turned fetch next is
