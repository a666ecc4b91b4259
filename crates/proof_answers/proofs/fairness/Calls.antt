-- Each call that is due is answered: a word of a page, and a call of the heap.
use Rattle.std.proofs.Common.{◌≡◌, ◌<◌, ◌≤◌, ◌+◌, ◌*◌, ℕ, suc, false, List, [], ◌∷◌, ◌++◌, length, slice_get, Option, Some, None, refl, sym, ap, ◌∙◌, subst, inl, inr, arith, append_assoc}
use Rattle.std.proofs.lemmas.Bool.{cases_Bool}
use Rattle.std.proofs.lemmas.Option.{none-some, slice_get-get_or}
use Rattle.std.specs.List.{Contains}
use Rattle.std.specs.Prelude.{get_or}
use Rattle.ivy_model.specs.declared.Call.{Call}
use Rattle.ivy_model.specs.declared.Call.TheVariants as call
use Rattle.ivy_model.specs.declared.Config.{Config}
use Rattle.ivy_model.specs.declared.Record.{Record}
use Rattle.ivy_model.specs.stated.Config.{IsConfig}
use Rattle.ivy_model.specs.stated.Explains.{part}
use Rattle.ivy_model.specs.Memory.{IsSized, flat_page}
use Rattle.ivy_model.specs.stated.Memory.{first}
use Rattle.ivy_model.proofs.Counts.{read_count}
use Rattle.ivy_model.proofs.Sizes.{first_sized, leads_sized}
use Rattle.ivy_pagetable.specs.declared.Word.{Word}
use Rattle.ivy_pagetable.specs.declared.Word.TheVariants as word
use Rattle.ivy_pagetable.specs.stated.Entries.{is_locked}
use Rattle.ivy_pagetable.specs.stated.Tables.{entry_at}
use Rattle.ivy_pagetable.specs.stated.Words.{number_at}
use Rattle.ivy_program.specs.stated.Programs.{Program}
use Rattle.ivy_moves.specs.stated.Following.{fifo_of}
use Rattle.ivy_moves.specs.stated.Nodes.{Node}
use Rattle.ivy_moves.specs.stated.FifoWorld.{FifoWorld}
use Rattle.ivy_moves.specs.stated.Worlds.{World}
use Rattle.ivy_moves.proofs.Places.{core_of}
use Rattle.proof_answers.proofs.answers.Unhanded.{none_is_fetched}
use Rattle.proof_answers.specs.answers.Answered.{IsDue, advances}
use Rattle.proof_answers.specs.answers.NodeRounds.{AreRounds}
use Rattle.proof_answers.specs.answers.Undropped.{IsOfMoves}
use Rattle.ivy_model.specs.declared.Kind.TheVariants as kind
use Rattle.ivy_program.specs.Programs.{FetchNothing}
use Rattle.ivy_host.specs.stated.Hosts.{Host}
use Rattle.ivy_host.specs.stated.Managers.{Managed, managed_ops}
use Rattle.ivy_host.specs.declared.opening.Opening.{Opening}
use Rattle.ivy_host.specs.declared.opening.Opening.TheVariants.{Configured}
use Rattle.ivy_host.specs.stated.Openings.{managed_start}
use Rattle.ivy_host.proofs.Starts.{managed_new}
use Rattle.ivy_host.specs.ManagedLaws.{managed_laws}
use Rattle.ivy_alloc.specs.declared.HeapCall.{HeapCall}
use Rattle.ivy_alloc.specs.declared.HeapCall.TheVariants as heap
use Rattle.ivy_memory.specs.declared.Asked.{Asked}
use Rattle.ivy_memory.specs.declared.Asked.TheVariants as kinds
use Rattle.ivy_memory.specs.stated.Asking.{asked_of}
use Rattle.proof_worlds.specs.stated.HeapRequests.{heap_way}
use Rattle.proof_worlds.specs.stated.FifoRuns.{IsReachedInOrder, FollowsInOrder}
use Rattle.proof_worlds.proofs.consistency.Faithful.{IsFaithful, map-places}
use Rattle.proof_worlds.proofs.consistency.Owing.{pending}
use Rattle.proof_worlds.proofs.refinement.FifoRuns.{led_in_order}
use Rattle.proof_worlds.proofs.progress.FetchedPages.{only_locked}
use Rattle.proof_worlds.proofs.progress.Reached.{IsToldBy}
use Rattle.proof_worlds.proofs.progress.Stopped.{IsAwait, await_is}
use Rattle.proof_answers.proofs.answers.Counts.{advances_in}
use Rattle.proof_answers.proofs.answers.Later.{AreLater, all_later}
use Rattle.proof_answers.specs.fairness.Fairness.{IsHeapCall, IsAnswered, rounds_by, rounds_at, most_rounds, CallsAnswered, CallsAnsweredUnfetched, HeapCallsAnswered}
use Rattle.proof_answers.proofs.fairness.Aims.{IsReady}
use Rattle.proof_answers.proofs.fairness.Bases.{fixed_rank}
use Rattle.proof_answers.proofs.fairness.WaitRanks.{WaitRank}
use Rattle.proof_answers.proofs.fairness.Leading.{HasGrown, told_of}
use Rattle.proof_answers.proofs.fairness.HeapRounds.{three_rounds_answer}
use Rattle.proof_answers.proofs.fairness.TriedRounds.{rounds_answer, more_rounds_answer}

-- a call is due, so there is one
call_of : (w : World (Host Managed)) (a : Option Call) → IsDue w a
    → (called : Call) × (a ≡ Some called) × IsDue w (Some called)
call_of w None due = absurd due
call_of w (Some called) due = (called, refl, due)

heap_of : (c : Config) (a : Option Call) → IsHeapCall a
    → (called : Call) × (k : HeapCall) × (a ≡ Some called) × (asked_of c called ≡ kinds.Heap k)
heap_of c (Some (call.Alloc size)) is = (call.Alloc size, heap.Alloc size, refl, refl)
heap_of c (Some (call.Free addr)) is = (call.Free addr, heap.Free addr, refl, refl)
heap_of c a is = absurd is

-- If a call is due and is an await, its count has come to the least value, now and later on.
module _ (opened : Opening) (c : Config) (limits : IsConfig c) (programs : List Program)
    (many : length programs ≡ c.nodes) (w : World (Host Managed))
    (f : FollowsInOrder managed_ops (managed_start opened) c programs w) (called : Call)
    (due : IsDue w (Some called))
    (o : FifoWorld (Host Managed))
    (run : IsReachedInOrder managed_ops (managed_start opened) c programs o)
    (later : AreLater (fifo_of w f.posted) o) where
  abbrev order : List Record
  order = (told_of opened c limits programs many o run).order

  abbrev faithful : IsFaithful (managed_start opened).sends_on managed_ops c o order
  faithful = (told_of opened c limits programs many o run).faithful

  -- the histories come first in the parts of the order
  parts : (i : ℕ) (n : Node (Host Managed)) → slice_get w.nodes i ≡ Some n
      → (more : List Record) × (part i order ≡ n.core.history ++ more)
  parts i n there =
      let m = later.at i n.core (core_of w.nodes i n there) in (
        m.2.more ++ pending m.0 (heap_way o 0 i),
        faithful.parts i m.0 m.1
            ∙ ap (λ l. l ++ pending m.0 (heap_way o 0 i)) m.2.history
            ∙ append_assoc n.core.history m.2.more (pending m.0 (heap_way o 0 i)),
      )

  module _ (page offset least : ℕ)
      (of : asked_of c called ≡ kinds.Word page (word.Await offset least)) where
    await : IsAwait c called page offset least
    await = await_is c called page offset least of

    sized : IsSized c faithful.memory
    sized = leads_sized c (first c) faithful.memory order limits (first_sized c) faithful.legal

    abbrev count : ℕ
    count = get_or faithful.memory.counts await.count 0

    within : await.count < length faithful.memory.counts
    within = (let a = await.there in let b = sized.counts in omega (arith, a, b))

    counted : slice_get faithful.memory.counts await.count ≡ Some count
    counted = slice_get-get_or faithful.memory.counts await.count 0 within

    shown : number_at 8 offset (faithful.pages page) ≡ count
    shown =
        let inside : page < c.pages =
        (let a = await.first in let b = limits.pages_from in omega (arith, a, b)) in
        ap (number_at 8 offset) (faithful.shows page inside)
        ∙ ap (λ p. number_at 8 offset (flat_page c faithful.memory p)) await.first
        ∙ ap (λ a. number_at 8 a (flat_page c faithful.memory 0)) await.at
        ∙ read_count faithful.memory.counts await.count count counted
        (sized.words await.count count counted)

    high : least ≤ number_at 8 offset (faithful.pages page)
    high =
        let a : least ≤ advances await.count w = subst (λ k. IsDue w (Some k)) await.is due in
        let b = advances_in c limits w order faithful.memory faithful.legal parts await.count count
        counted in
        let s = shown in
        omega (arith, a, b, s)

  is_ready : IsReady c faithful.pages called
  is_ready page offset least of = high page offset least of

module _ (opened : Opening) (c : Config) (programs : List Program) (w : World (Host Managed))
    (of : IsOfMoves opened c programs w) (i : ℕ) (n : Node (Host Managed))
    (there : slice_get w.nodes i ≡ Some n) (end : World (Host Managed)) where
  abbrev follows : (v : World (Host Managed)) → Type 0
  follows v = FollowsInOrder managed_ops (managed_start opened) c programs v

  f : follows w
  f = led_in_order managed_laws (managed_start opened) c of.limits (managed_new opened c of.limits)
      programs of.many of.moves w of.led

  here : slice_get (fifo_of w f.posted).cores i ≡ Some n.core
  here = core_of w.nodes i n there

  -- a history that is longer in the FIFO world is that of the node
  is_answered : (g : follows end)
      → HasGrown opened c of.limits programs of.many i n.core.history (fifo_of end g.posted)
      → IsAnswered w end i
  is_answered g grown =
      let node = map-places (λ (m : Node (Host Managed)). m.core) end.nodes i grown.0 grown.1 in (
        n,
        node.0,
        there,
        node.1,
        subst (λ (z : Host Managed). length n.core.history < length z.history) (sym node.2) grown.2,
      )

  -- a call of the heap
  by_heap : (called : Call) → n.core.memory.asked ≡ Some called → (k : HeapCall)
      → asked_of c called ≡ kinds.Heap k → (more : ℕ)
      → AreRounds c i (suc (suc (suc more))) w end → IsAnswered w end i
  by_heap called asked k is more are =
      let g = three_rounds_answer opened c of.limits programs of.many i called k is n.core.history
      more w end
      f n.core here asked refl are in
      is_answered g.0 g.1

-- A call that is due, by what it asks for.
module _ (opened : Opening) (c : Config) (programs : List Program)
    (rank : WaitRank opened c programs) (w : World (Host Managed))
    (of : IsOfMoves opened c programs w) (i : ℕ) (n : Node (Host Managed))
    (there : slice_get w.nodes i ≡ Some n) (end : World (Host Managed)) where
  started : FollowsInOrder managed_ops (managed_start opened) c programs w
  started = f opened c programs w of i n there end

  told : IsToldBy (managed_start opened).sends_on managed_ops c (fifo_of w started.posted)
  told = told_of opened c of.limits programs of.many (fifo_of w started.posted) started.reached

  core : slice_get (fifo_of w started.posted).cores i ≡ Some n.core
  core = here opened c programs w of i n there end

  -- where no word of the node waits, and it fetches no page, no entry is locked
  idle : n.core.memory.coherence.fetched ≡ [] → (page : ℕ) → n.core.memory.coherence.locked ≡ None
      → is_locked (entry_at n.core.memory.coherence.table page) ≡ false
  idle none page free = elim (cases_Bool (is_locked (entry_at n.core.memory.coherence.table page))) [
    | inr free_too ↦ free_too
    | inl shut ↦ absurd (none-some page (sym free
        ∙ only_locked managed_ops n.core.memory.coherence
        (told.faithful.sound.sound i n.core core).memory.coherent
        (λ p has. let low = (subst (λ ps. Contains ps p) none has).1 in omega (arith, low)) page shut))
  ]

  module _ (called : Call) (asked : n.core.memory.asked ≡ Some called)
      (due : IsDue w (Some called)) where
    -- by the rounds that are enough for a word
    by_kind : (more : ℕ) → AreRounds c i (suc (suc (suc more))) w end
        → ((page : ℕ) (word : Word) → asked_of c called ≡ kinds.Word page word → IsAnswered w end i)
        → (a : Asked) → asked_of c called ≡ a → IsAnswered w end i
    by_kind more are words (kinds.Refused code) is =
        absurd (told.servable i n.core core called code asked is)
    by_kind more are words (kinds.Word page word) is = words page word is
    by_kind more are words (kinds.Heap k) is =
        by_heap opened c programs w of i n there end called asked k is more are

    by_word : ((page : ℕ) → n.core.memory.coherence.locked ≡ None
        → is_locked (entry_at n.core.memory.coherence.table page) ≡ false)
        → AreRounds c i (rank.most + 3) w end
        → (page : ℕ) (word : Word) → asked_of c called ≡ kinds.Word page word → IsAnswered w end i
    by_word shuts are page word is =
        let g = rounds_answer opened c of.limits programs of.many rank i called page word is
        (fifo_of w started.posted)
        (is_ready opened c of.limits programs of.many w started called due) w end started n
        there asked (all_later (fifo_of w started.posted)) (shuts page) are in
        is_answered opened c programs w of i n there end g.0 g.1

    by_any_word : AreRounds c i (2 * (rank.most + 3)) w end
        → (page : ℕ) (word : Word) → asked_of c called ≡ kinds.Word page word → IsAnswered w end i
    by_any_word are page word is =
        let g = more_rounds_answer opened c of.limits programs of.many rank i called page word is
        (fifo_of w started.posted)
        (is_ready opened c of.limits programs of.many w started called due) w end started n
        there asked (all_later (fifo_of w started.posted)) are in
        is_answered opened c programs w of i n there end g.0 g.1

    by_few : ((page : ℕ) → n.core.memory.coherence.locked ≡ None
        → is_locked (entry_at n.core.memory.coherence.table page) ≡ false)
        → AreRounds c i (rank.most + 3) w end → IsAnswered w end i
    by_few shuts are =
        let e : rank.most + 3 ≡ suc (suc (suc rank.most)) = omega arith in
        by_kind rank.most (subst (λ z. AreRounds c i z w end) e are) (by_word shuts are)
        (asked_of c called) refl

    by_lock : (lock : Option ℕ) → n.core.memory.coherence.locked ≡ lock → (fetched : List ℕ)
        → n.core.memory.coherence.fetched ≡ fetched
        → AreRounds c i (rounds_by lock fetched (rank.most + 3)) w end → IsAnswered w end i
    by_lock (Some page) waits fetched is are =
        by_few (λ q free. absurd (none-some page (sym free ∙ waits))) are
    by_lock None free [] is are = by_few (idle is) are
    by_lock None free (p ∷ ps) is are =
        let e : 2 * (rank.most + 3) ≡ suc (suc (suc (2 * rank.most + 3))) = omega arith in
        by_kind (2 * rank.most + 3) (subst (λ z. AreRounds c i z w end) e are) (by_any_word are)
        (asked_of c called) refl

-- three rounds more than a word waits at most answer a call that is due, or twice as many
pub due_answered : (opened : Opening) (c : Config) (programs : List Program)
    → (rank : WaitRank opened c programs) (w : World (Host Managed)) → IsOfMoves opened c programs w
    → (i : ℕ) (n : Node (Host Managed)) → slice_get w.nodes i ≡ Some n
    → IsDue w n.core.memory.asked → (end : World (Host Managed))
    → AreRounds c i (rounds_at n (rank.most + 3)) w end → IsAnswered w end i
due_answered opened c programs rank w of i n there due end are =
    let called = call_of w n.core.memory.asked due in
    by_lock opened c programs rank w of i n there end called.0 called.1 called.2
    n.core.memory.coherence.locked refl n.core.memory.coherence.fetched refl are

-- where no program has pages fetched ahead, that is so many at each node
rounds_one : (lock : Option ℕ) (rounds : ℕ) → rounds ≡ rounds_by lock [] rounds
rounds_one (Some page) rounds = refl
rounds_one None rounds = refl

pub unfetched_rounds : (opened : Opening) (c : Config) (programs : List Program)
    (w : World (Host Managed)) → IsOfMoves opened c programs w → FetchNothing programs → (i : ℕ)
    (n : Node (Host Managed)) → slice_get w.nodes i ≡ Some n → (rounds : ℕ)
    → rounds ≡ rounds_at n rounds
unfetched_rounds opened c programs w of none i n there rounds =
    rounds_one n.core.memory.coherence.locked rounds
    ∙ ap (λ ps. rounds_by n.core.memory.coherence.locked ps rounds)
    (sym (none_is_fetched opened c programs w of none i n there))

managed_answered : (c : Config) (programs : List Program) (w : World (Host Managed))
    → IsOfMoves Configured c programs w → c.manager ≡ kind.Fixed → (i : ℕ) (n : Node (Host Managed))
    → slice_get w.nodes i ≡ Some n → IsDue w n.core.memory.asked
    → (end : World (Host Managed)) → AreRounds c i (rounds_at n (6 * c.nodes + 3)) w end
    → IsAnswered w end i
managed_answered c programs w of fixed =
    due_answered Configured c programs (fixed_rank c of.limits fixed programs of.many) w of

pub calls_answered : CallsAnswered
calls_answered opened c programs w of named fixed i n there due end are =
    managed_answered c programs w (subst (λ k. IsOfMoves k c programs w) named of) fixed i n there
    due end are

pub calls_answered_unfetched : CallsAnsweredUnfetched
calls_answered_unfetched opened c programs w of none named fixed i n there due end are =
    calls_answered opened c programs w of named fixed i n there due end
    (subst (λ z. AreRounds c i z w end)
    (unfetched_rounds opened c programs w of none i n there (most_rounds c.nodes)) are)

pub heap_calls_answered : HeapCallsAnswered
heap_calls_answered opened c programs w of i n there heap end are =
    let called = heap_of c n.core.memory.asked heap in
    by_heap opened c programs w of i n there end called.0 called.2 called.1 called.3 0 are
