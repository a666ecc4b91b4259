-- A message of the heap keeps the FIFO world faithful: a call that node 0 serves stands in the
-- order from then on, and the answer is owed to its caller wherever it is.
use Rattle.std.proofs.Common.{◌≡◌, ◌≢◌, ◌<◌, ℕ, Bool, List, [], ◌∷◌, ◌++◌, set, slice_get, Some, None, refl, ap, sym, subst, ◌∙◌, inl, inr}
use Rattle.std.proofs.lemmas.Bool.{cases_eq}
use Rattle.std.proofs.lemmas.List.{append-nil}
use Rattle.std.proofs.lemmas.List.Elements.{All-nil, All-cons}
use Rattle.std.proofs.lemmas.Option.{same_Some}
use Rattle.ivy_model.specs.declared.Config.{Config}
use Rattle.ivy_model.specs.declared.Record.{Record}
use Rattle.ivy_model.specs.declared.Reply.{Reply}
use Rattle.ivy_model.specs.stated.Memory.{first}
use Rattle.ivy_model.specs.stated.Explains.{part}
use Rattle.ivy_model.proofs.OrderParts.{part-append, part-own, part-other, leads-append}
use Rattle.ivy_wire.specs.stated.Data.{Message}
use Rattle.ivy_pagetable.specs.declared.Entry.{Entry}
use Rattle.ivy_pagetable.specs.stated.Manager.{Ops}
use Rattle.ivy_alloc.specs.stated.Heap.{HeapState}
use Rattle.ivy_moves.specs.stated.Explained.{StandTogether}
use Rattle.ivy_moves.specs.stated.FifoWorld.{FifoWorld}
use Rattle.ivy_memory.specs.declared.Asked.TheVariants as kinds
use Rattle.ivy_alloc.specs.declared.HeapCall.{HeapCall}
use Rattle.ivy_alloc.specs.declared.HeapRequest.TheVariants as heap_request
use Rattle.ivy_memory.specs.stated.Asking.{asked_of}
use Rattle.ivy_alloc.specs.stated.HeapCalls.{kept, told_of, after_told, reply_in}
use Rattle.ivy_memory.specs.stated.Memories.{first_reply, reply_there}
use Rattle.ivy_memory.specs.stated.Sound.{IsHeapRequestOf, IsInProgress}
use Rattle.ivy_host.specs.stated.Hosts.{Host, number_of}
use Rattle.ivy_host.specs.stated.Sound.{IsSoundHost}
use Rattle.proof_table.specs.stated.Orderly.{IsOrderly}
use Rattle.proof_worlds.specs.stated.HeapRequests.{heap_way}
use Rattle.proof_worlds.proofs.refinement.LiftedWorlds.{net_of, IsSoundWorldBy}
use Rattle.proof_worlds.specs.consistency.Alone.{IsAlone, AreAlone, IsOf, AreOf}
use Rattle.proof_worlds.specs.consistency.Copied.{IsCopied}
use Rattle.proof_worlds.proofs.consistency.HeapServed.{memory_told, heap_served}
use Rattle.proof_worlds.proofs.consistency.Owing.{owed, reply_owed, along_owed, pending, owed-untold, then-untold, none_pending, IsRunning}
use Rattle.proof_worlds.proofs.consistency.Adjacent.{added_together, grown_together}
use Rattle.proof_worlds.proofs.consistency.Faithful.{IsFaithful, at_home, set-places}

-- node 0 after it served a call of the heap, and a node that learned the reply of its own
abbrev pub with_heap : {S : Type 0} → Host S → HeapState → HeapCall → Host S
with_heap n h k =
    record n { memory = record n.memory { side = kept n.memory.side h (told_of h k) } }

abbrev pub with_reply : {S : Type 0} → Host S → Reply → Host S
with_reply n r =
    record n
    { memory = record n.memory { side = record n.memory.side { heap_request = Some (heap_request.Told r) } } }

-- what holds of a node's run is untouched by its side of the heap
with_heap-running : {S : Type 0} (c : Config) (n : Host S) (h : HeapState) (k : HeapCall)
    → IsRunning c n → IsRunning c (with_heap n h k)
with_heap-running c n h k r = record {
  run = r.run;
  makes = r.makes;
  waits = r.waits;
  waits_along = r.waits_along;
  prompt = r.prompt;
  idle = r.idle;
  told = r.told;
}

with_reply-running : {S : Type 0} (c : Config) (n : Host S) (y : Reply) → IsRunning c n
    → IsRunning c (with_reply n y)
with_reply-running c n y r = record {
  run = r.run;
  makes = r.makes;
  waits = r.waits;
  waits_along = r.waits_along;
  prompt = r.prompt;
  idle = r.idle;
  told = r.told;
}

module _ {S : Type 0} {sends : Bool} (ops : Ops S) (c : Config) (o o' : FifoWorld (Host S))
    (order : List Record) (f : IsFaithful sends ops c o order)
    (sound : IsSoundWorldBy sends ops c o') (orderly : IsOrderly c (net_of o'))
    (copied : IsCopied c (net_of o') f.pages) where
  -- node 0 serves the call of the heap that another node asks for
  module _ (home source number : ℕ) (core asker : Host S) (k : HeapCall) (heap : HeapState)
      (zero : home ≡ 0) (away : source ≢ 0) (there : slice_get o.cores home ≡ Some core)
      (asks : slice_get o.cores source ≡ Some asker)
      (asked : asker.memory.side.heap_request ≡ Some (heap_request.Asked k number))
      (has : core.memory.side.heap ≡ Some heap)
      (cores : o'.cores ≡ set o.cores home (with_heap core heap k))
      (before : heap_way o 0 source ≡ []) (answer : Message)
      (after : heap_way o' 0 source ≡ answer ∷ [])
      (fits : reply_in k answer.content ≡ Some (told_of heap k).reply)
      (others : (j : ℕ) → j ≢ source → heap_way o' 0 j ≡ heap_way o 0 j) where
    pub good : IsSoundHost ops c source asker
    good = f.sound.sound source asker asks

    pub called : IsInProgress asker.memory.coherence.config asker.memory.asked k
    called =
        subst (IsHeapRequestOf asker.memory.coherence.config asker.memory.asked) asked
        good.memory.side.heap_request

    -- its record
    abbrev pub given : Record
    given = record { node = source; call = called.call; reply = (told_of heap k).reply }

    nothing_done : asker.memory.coherence.done ≡ None
    nothing_done = (good.memory.apart (heap_request.Asked k number) asked).1

    -- nothing was made along with a call of the heap
    none_along : along_owed asker ≡ []
    none_along =
        then-untold (number_of asker) asker.memory.along asker.memory.coherence.done
        asker.memory.coherence.done_more nothing_done

    owed_before : pending asker (heap_way o 0 source) ≡ []
    owed_before =
        none_pending _ (along_owed asker)
        (owed-untold (number_of asker) asker.memory.asked
        (reply_owed asker.memory.side.heap_request (heap_way o 0 source) asker.memory.coherence.done)
        (ap (λ e. reply_owed e (heap_way o 0 source) asker.memory.coherence.done) asked
        ∙ ap (λ (ms : List Message). reply_owed (Some (heap_request.Asked k number)) ms
        asker.memory.coherence.done) before ∙ ap reply_there nothing_done)) none_along

    owed_after : pending asker (heap_way o' 0 source) ≡ given ∷ []
    owed_after =
        ap (λ a. owed (number_of asker) a
        (reply_owed asker.memory.side.heap_request (heap_way o' 0 source)
        asker.memory.coherence.done) ++ along_owed asker) called.asked
        ∙ ap (λ r. owed (number_of asker) (Some called.call) r ++ along_owed asker)
        (ap (λ e. reply_owed e (heap_way o' 0 source) asker.memory.coherence.done) asked
        ∙ ap (λ (ms : List Message). reply_owed (Some (heap_request.Asked k number)) ms
        asker.memory.coherence.done) after
        ∙ ap (λ r. first_reply r (reply_there asker.memory.coherence.done)) fits)
        ∙ ap (λ xs. record {
          node = number_of asker;
          call = called.call;
          reply = (told_of heap k).reply;
        } ∷ xs) none_along
        ∙ ap (λ i. record { node = i; call = called.call; reply = (told_of heap k).reply } ∷ [])
        good.me

    asker_part : (j : ℕ) (m : Host S) → j ≡ source → slice_get o'.cores j ≡ Some m
        → part j order ++ part j (given ∷ []) ≡ m.history ++ pending m (heap_way o' 0 j)
    asker_part j m same at =
        elim (set-places o.cores home j (with_heap core heap k) m
        (ap (λ ns. slice_get ns j) (sym cores) ∙ at)) [
          | inl x ↦ absurd (away (sym same ∙ x.0 ∙ zero))
          | inr x ↦ (
              let this : asker ≡ m =
              same_Some asker m (sym asks ∙ ap (slice_get o.cores) (sym same) ∙ x.1) in
              let was : part j order ≡ asker.history =
              ap (λ i. part i order) same ∙ f.parts source asker asks
              ∙ ap (λ xs. asker.history ++ xs) owed_before ∙ append-nil asker.history in
              ap (λ xs. part j order ++ xs) (part-own j given (sym same))
              ∙ ap (λ xs. xs ++ given ∷ []) was ∙ ap (λ xs. asker.history ++ xs) (sym owed_after)
              ∙ ap (λ i. asker.history ++ pending asker (heap_way o' 0 i)) (sym same)
              ∙ ap (λ (y : Host S). y.history ++ pending y (heap_way o' 0 j)) this
              )
        ]

    other_part : (j : ℕ) (m : Host S) → j ≢ source → slice_get o'.cores j ≡ Some m
        → part j order ++ part j (given ∷ []) ≡ m.history ++ pending m (heap_way o' 0 j)
    other_part j m ne at =
        ap (λ xs. part j order ++ xs) (part-other j given (λ e. ne (sym e)))
        ∙ append-nil (part j order)
        ∙ elim (set-places o.cores home j (with_heap core heap k) m
        (ap (λ ns. slice_get ns j) (sym cores) ∙ at)) [
          | inl x ↦
              ap (λ i. part i order) x.0 ∙ f.parts home core there
              ∙ ap (λ i. core.history ++ pending core (heap_way o 0 i)) (sym x.0)
              ∙ ap (λ (y : Host S). y.history ++ pending y (heap_way o 0 j)) (sym x.1)
          | inr x ↦ f.parts j m x.1
        ]
        ∙ ap (λ ms. m.history ++ pending m ms) (sym (others j ne))

    asker_together : (j : ℕ) (m : Host S) → j ≡ source → slice_get o'.cores j ≡ Some m
        → StandTogether (pending m (heap_way o' 0 j)) (order ++ given ∷ [])
    asker_together j m same at =
        elim (set-places o.cores home j (with_heap core heap k) m
        (ap (λ ns. slice_get ns j) (sym cores) ∙ at)) [
          | inl x ↦ absurd (away (sym same ∙ x.0 ∙ zero))
          | inr x ↦ (
              let this : asker ≡ m =
              same_Some asker m (sym asks ∙ ap (slice_get o.cores) (sym same) ∙ x.1) in
              subst (λ xs. StandTogether xs (order ++ given ∷ []))
              (sym owed_after ∙ ap (λ i. pending asker (heap_way o' 0 i)) (sym same)
              ∙ ap (λ (y : Host S). pending y (heap_way o' 0 j)) this)
              (added_together order (given ∷ []))
              )
        ]

    other_together : (j : ℕ) (m : Host S) → j ≢ source → slice_get o'.cores j ≡ Some m
        → StandTogether (pending m (heap_way o' 0 j)) (order ++ given ∷ [])
    other_together j m ne at = subst (λ ms. StandTogether (pending m ms) (order ++ given ∷ []))
        (sym (others j ne))
        (grown_together (pending m (heap_way o 0 j)) order (given ∷ [])
        (elim (set-places o.cores home j (with_heap core heap k) m
        (ap (λ ns. slice_get ns j) (sym cores) ∙ at)) [
          | inl x ↦
              subst (λ (y : Host S). StandTogether (pending y (heap_way o 0 j)) order) (sym x.1)
              (subst (λ i. StandTogether (pending core (heap_way o 0 i)) order) (sym x.0)
              (f.together home core there))
          | inr x ↦ f.together j m x.1
        ]))

    -- a call of the heap is no word
    pub given_alone : (was : ℕ → ℕ → Entry) → AreAlone c was (given ∷ [])
    given_alone was =
        All-cons (λ (r : Record). IsAlone c was r.node r.call) given []
        (λ page word is j ne.
        (let two : kinds.Heap k ≡ kinds.Word page word =
        sym (subst (λ d. asked_of d called.call ≡ kinds.Heap k) good.config called.of) ∙ is in
        absurd cc))
        (All-nil (λ (r : Record). IsAlone c was r.node r.call))

    pub given_own : (x : ℕ) → ((j : ℕ) → j ≢ x → slice_get o'.cores j ≡ slice_get o.cores j)
        → AreOf c x (given ∷ [])
    given_own x same =
        All-cons (λ (r : Record). IsOf c x r) given []
        (λ page word is. absurd (
        let two : kinds.Heap k ≡ kinds.Word page word =
        sym (subst (λ d. asked_of d called.call ≡ kinds.Heap k) good.config called.of) ∙ is in cc
        )) (All-nil (λ (r : Record). IsOf c x r))

    pub serves_faithful : IsFaithful sends ops c o' (order ++ given ∷ [])
    serves_faithful = record {
      memory = memory_told f.memory heap k;
      legal = leads-append c (first c) f.memory (memory_told f.memory heap k) order (given ∷ [])
          f.legal (
            memory_told f.memory heap k,
            record {
              node = subst (λ i. i < c.nodes) good.me
                  (subst (λ (d : Config). number_of asker < d.nodes) good.config
                  good.memory.coherent.here);
              width = good.memory.width called.call called.asked;
              served =
                  heap_served c f.memory heap
                  (((f.sound.sound home core there).memory.side.home heap has).0
                  ∙ (f.sound.sound home core there).config) (f.blocks home core heap there has)
                  called.call k
                  (subst (λ d. asked_of d called.call ≡ kinds.Heap k) good.config called.of);
            },
            refl,
          );
      pages = f.pages;
      shows = f.shows;
      sound = sound;
      orderly = orderly;
      copied = copied;
      running =
          λ j m h.
          elim (set-places o.cores home j (with_heap core heap k) m
          (ap (λ ns. slice_get ns j) (sym cores) ∙ h)) [
            | inl x ↦
                subst (IsRunning c) (sym x.1)
                (with_heap-running c core heap k (f.running home core there))
            | inr x ↦ f.running j m x.1
          ];
      parts = λ j m h. part-append j order (given ∷ [])
          ∙ elim (cases_eq j source) [
            | inl same ↦ asker_part j m same h
            | inr ne ↦
                other_part j m ne h
          ];
      together = λ j m h.
          elim (cases_eq j source) [
            | inl same ↦ asker_together j m same h
            | inr ne ↦
                other_together j m ne h
          ];
      blocks =
          λ j m g at shows.
          elim (set-places o.cores home j (with_heap core heap k) m
          (ap (λ ns. slice_get ns j) (sym cores) ∙ at)) [
            | inl x ↦
                ap (λ (y : HeapState). y.blocks)
                (same_Some g (after_told heap (told_of heap k))
                (sym shows ∙ ap (λ (y : Host S). y.memory.side.heap) x.1))
            | inr x ↦ absurd (x.0 (at_home ops c o f.sound j m g x.1 shows ∙ sym zero))
          ];
    }

  -- the node that asked learns the reply
  module _ (x number : ℕ) (core : Host S) (k : HeapCall) (r : Reply) (m : Message)
      (there : slice_get o.cores x ≡ Some core)
      (asked : core.memory.side.heap_request ≡ Some (heap_request.Asked k number))
      (cores : o'.cores ≡ set o.cores x (with_reply core r)) (before : heap_way o 0 x ≡ m ∷ [])
      (is_reply : reply_in k m.content ≡ Some r)
      (others : (j : ℕ) → j ≢ x → heap_way o' 0 j ≡ heap_way o 0 j) where
    owed_still : (ms : List Message)
        → pending core (heap_way o 0 x) ≡ pending (with_reply core r) ms
    owed_still ms = ap (λ y. owed (number_of core) core.memory.asked y ++ along_owed core)
        (ap (λ e. reply_owed e (heap_way o 0 x) core.memory.coherence.done) asked
        ∙ ap (λ (l : List Message). reply_owed (Some (heap_request.Asked k number)) l
        core.memory.coherence.done) before
        ∙ ap (λ y. first_reply y (reply_there core.memory.coherence.done)) is_reply)

    pub learns_faithful : IsFaithful sends ops c o' order
    learns_faithful = record {
      memory = f.memory;
      legal = f.legal;
      pages = f.pages;
      shows = f.shows;
      sound = sound;
      orderly = orderly;
      copied = copied;
      running =
          λ j n h.
          elim (set-places o.cores x j (with_reply core r) n
          (ap (λ ns. slice_get ns j) (sym cores) ∙ h)) [
            | inl y ↦
                subst (IsRunning c) (sym y.1) (with_reply-running c core r (f.running x core there))
            | inr y ↦ f.running j n y.1
          ];
      parts = λ j n h.
          elim (set-places o.cores x j (with_reply core r) n
          (ap (λ ns. slice_get ns j) (sym cores) ∙ h)) [
            | inl y ↦
                ap (λ i. part i order) y.0 ∙ f.parts x core there
                ∙ ap (λ xs. core.history ++ xs) (owed_still (heap_way o' 0 j))
                ∙ ap (λ (z : Host S). z.history ++ pending z (heap_way o' 0 j)) (sym y.1)
            | inr y ↦ f.parts j n y.1 ∙ ap (λ ms. n.history ++ pending n ms) (sym (others j y.0))
          ];
      together = λ j n h.
          elim (set-places o.cores x j (with_reply core r) n
          (ap (λ ns. slice_get ns j) (sym cores) ∙ h)) [
            | inl y ↦
                subst (λ xs. StandTogether xs order)
                (owed_still (heap_way o' 0 j)
                ∙ ap (λ (z : Host S). pending z (heap_way o' 0 j)) (sym y.1))
                (f.together x core there)
            | inr y ↦
                subst (λ ms. StandTogether (pending n ms) order) (sym (others j y.0))
                (f.together j n y.1)
          ];
      blocks =
          λ j n g at shows.
          elim (set-places o.cores x j (with_reply core r) n
          (ap (λ ns. slice_get ns j) (sym cores) ∙ at)) [
            | inl y ↦
                f.blocks x core g there (ap (λ (z : Host S). z.memory.side.heap) (sym y.1) ∙ shows)
            | inr y ↦ f.blocks j n g y.1 shows
          ];
    }
