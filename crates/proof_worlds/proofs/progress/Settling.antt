-- A FIFO world in which all was delivered blocks no node. So one in which no turn does anything
-- either stands still only where the flat memory has no answer.
use Rattle.std.proofs.Common.{◌≡◌, ◌≢◌, ◌<◌, ◌≤◌, ◌+◌, ◌⊎◌, ℕ, Bool, true, false, nat_le, List, [], ◌∷◌, ◌++◌, length, map, take, drop, slice_get, Option, Some, None, refl, sym, ap, ◌∙◌, inl, inr, subst, arith, append-nil}
use Rattle.std.proofs.lemmas.Bool.{leb-true, leb-false}
use Rattle.std.proofs.lemmas.List.{take_all, drop_all}
use Rattle.std.proofs.lemmas.Option.{none-some, same_Some, slice_get_within, slice_get_cases}
use Rattle.ivy_model.specs.declared.Config.{Config}
use Rattle.ivy_model.specs.declared.Call.{Call}
use Rattle.ivy_model.specs.declared.Call.TheVariants.{Await}
use Rattle.ivy_model.specs.declared.Record.{Record}
use Rattle.ivy_model.specs.declared.Reply.{Reply}
use Rattle.ivy_model.specs.declared.Reply.TheVariants.{Value}
use Rattle.ivy_model.specs.stated.Config.{IsConfig}
use Rattle.ivy_model.specs.stated.Explains.{part, Answered}
use Rattle.ivy_model.specs.Memory.{IsSized, flat_page}
use Rattle.ivy_model.specs.stated.Memory.{first}
use Rattle.ivy_model.proofs.Counts.{read_count}
use Rattle.ivy_model.proofs.Sizes.{first_sized, leads_sized}
use Rattle.ivy_pagetable.specs.declared.Entry.{Entry}
use Rattle.ivy_pagetable.specs.declared.Entry.TheVariants as entry
use Rattle.ivy_pagetable.specs.declared.Out.{Out}
use Rattle.ivy_pagetable.specs.declared.Word.{Word}
use Rattle.ivy_pagetable.specs.declared.Word.TheVariants as word
use Rattle.ivy_pagetable.specs.stated.Accesses.{reads}
use Rattle.ivy_pagetable.specs.stated.States.{IdleState}
use Rattle.ivy_pagetable.specs.stated.Entries.{is_locked, readable}
use Rattle.ivy_pagetable.specs.stated.Manager.{Ops}
use Rattle.ivy_pagetable.specs.stated.Tables.{entry_at, page_at}
use Rattle.ivy_pagetable.specs.stated.Words.{number_at}
use Rattle.ivy_wire.specs.declared.Content.TheVariants as content
use Rattle.ivy_wire.specs.stated.Data.{Message}
use Rattle.ivy_moves.specs.stated.FifoWorld.{FifoWorld}
use Rattle.ivy_memory.specs.declared.Asked.{Asked}
use Rattle.ivy_memory.specs.declared.Asked.TheVariants as kinds
use Rattle.ivy_alloc.specs.declared.HeapRequest.{HeapRequest}
use Rattle.ivy_alloc.specs.declared.HeapRequest.TheVariants as heap_request
use Rattle.ivy_alloc.specs.declared.HeapCall.{HeapCall}
use Rattle.ivy_memory.specs.stated.Asking.{asked_of}
use Rattle.ivy_alloc.specs.stated.HeapCalls.{reply_told}
use Rattle.ivy_memory.specs.stated.Memories.{in_progress, first_reply, reply_at, reply_there, taken_with, taken_out}
use Rattle.ivy_memory.proofs.serving.Pages.{no_heap_request_of}
use Rattle.ivy_host.specs.stated.Hosts.{Host, answered_by, number_of, recorded, turn_of}
use Rattle.ivy_host.specs.stated.Sound.{IsSoundHost}
use Rattle.proof_worlds.specs.stated.HeapRequests.{about_heap, heap_way, IsHeapRequestAt, resting, asking, answered, IsHeapRequestFor, HaveHeapRequests}
use Rattle.proof_worlds.specs.stated.Nets.{about_pages, entry_of, page_of, net_of}
use Rattle.proof_worlds.proofs.refinement.HeapRequests.{have_heap_requests}
use Rattle.proof_worlds.proofs.consistency.Faithful.{map-places}
use Rattle.proof_worlds.proofs.consistency.Owing.{owed, reply_owed, along_owed, pending, told-owed, owed-unasked, owed-untold, untold-along, then-alone, none_pending, IsRunning}
use Rattle.proof_worlds.proofs.consistency.OwedCalls.{pending-calls}
use Rattle.proof_worlds.specs.progress.Answering.{AreAllDelivered}
use Rattle.proof_worlds.specs.stated.Settled.{HasNoAnswer, AreSettled}
use Rattle.proof_worlds.specs.stated.Unblocked.{IsHanded, IsAnsweredNext, AsksForCountsNext, IsDoneNext, Stands, waits, replied, reached, tried, AreUnblocked}
use Rattle.proof_worlds.proofs.progress.Pursued.{IsPlain}
use Rattle.proof_worlds.proofs.progress.Reached.{IsToldBy}
use Rattle.proof_worlds.proofs.progress.Stopped.{IsAwait, await_is, replied_turn, await_answered, await_asks, word_turn}
use Rattle.proof_worlds.proofs.progress.Unlocked.{IsAtRest}

-- where all messages were delivered
module _ {S : Type 0} (o : FifoWorld (Host S)) (all : AreAllDelivered o) where
  -- no letter is under way
  pub at_rest : IsAtRest (net_of o)
  at_rest = record {
    underway = λ i j k l at. (
        let whole : length (about_pages (take (o.delivered i j) (o.posted i j)))
        ≡ length (about_pages (o.posted i j)) =
        ap (λ ms. length (about_pages ms)) (take_all (o.delivered i j) (o.posted i j) (all i j)) in
        let within : k < length (about_pages (o.posted i j)) =
        slice_get_within (about_pages (o.posted i j)) k l.message at.1 in
        let past : length (about_pages (take (o.delivered i j) (o.posted i j))) ≤ k = at.0 in
        omega (arith, whole, within, past)
        );
    loose = refl;
  }

  -- nor a message of the heap
  no_heap_request_way : (i j : ℕ) → heap_way o i j ≡ []
  no_heap_request_way i j = ap about_heap (drop_all (o.delivered i j) (o.posted i j) (all i j))

nil_cons : {m : Message} → [] ≡ m ∷ [] → ⊥
nil_cons h = cc

-- where nothing is on the way, a call that node 0 was asked for has its reply
told_reply : (i : ℕ) (k : HeapCall) (number : ℕ) (e : Option HeapRequest) (ms ns : List Message)
    → ms ≡ [] → ns ≡ [] → IsHeapRequestFor k number e → IsHeapRequestAt i e ms ns → reply_told e ≡ None → ⊥
told_reply i k number None ms ns a b for at none = for
told_reply i k number (Some (heap_request.Told r)) ms ns a b for at none = none-some r (sym none)
told_reply i k number (Some (heap_request.Asked j n)) ms ns a b for (resting rest there back) none = rest
told_reply i k number (Some (heap_request.Asked j n)) ms ns a b for (asking h g is there back) none =
    nil_cons (sym a ∙ there)
told_reply i k number (Some (heap_request.Asked j n)) ms ns a b for
    (answered h g body r is there back reply can) none =
    nil_cons (sym b ∙ back)

first_none : (a b : Option Reply) → first_reply a b ≡ None → (a ≡ None) × (b ≡ None)
first_none None b h = (refl, h)
first_none (Some r) b h = absurd (none-some r (sym h))

module _ {S : Type 0} {sends : Bool} (ops : Ops S) (c : Config) (config : IsConfig c)
    (o : FifoWorld (Host S)) (all : AreAllDelivered o) (told : IsToldBy sends ops c o)
    (unlocked : (x p : ℕ) → is_locked ((net_of o).entry x p) ≡ false) where
  open told use {order, faithful, servable, pursued}
  open faithful use {memory, sound, copied}

  sized : IsSized c memory
  sized = leads_sized c (first c) memory order config (first_sized c) faithful.legal

  module _ (i : ℕ) (n : Host S) (there : slice_get o.cores i ≡ Some n) where
    good : IsSoundHost ops c i n
    good = sound.sound i n there

    running : IsRunning c n
    running = faithful.running i n there

    idle : (p : ℕ) → is_locked (entry_at n.memory.coherence.table p) ≡ false
    idle p = ap (λ z. is_locked (entry_of z p)) (sym there) ∙ unlocked i p

    none_locked : (l : Option ℕ) → n.memory.coherence.locked ≡ l → n.memory.coherence.locked ≡ None
    none_locked None is = is
    none_locked (Some p) is = absurd
        (let f : true ≡ false = sym (good.memory.coherent.locked p is) ∙ idle p in cc)

    free : n.memory.coherence.locked ≡ None
    free = none_locked n.memory.coherence.locked refl

    -- what the order has of the node
    part_is : (rest : List Record) → pending n (heap_way o 0 i) ≡ rest
        → part i order ≡ n.history ++ rest
    part_is rest is = faithful.parts i n there ∙ ap (λ rs. n.history ++ rs) is

    part_whole : pending n (heap_way o 0 i) ≡ [] → part i order ≡ n.history
    part_whole none = part_is [] none ∙ append-nil n.history

    module _ (called : Call) (asked : n.memory.asked ≡ Some called) where
      -- the reply is there, and owed first
      owed_first : (r : Reply) → reply_at n.memory ≡ Some r
          → pending n (heap_way o 0 i)
          ≡ record { node = number_of n; call = called; reply = r } ∷ along_owed n
      owed_first r is =
          ap (λ a. owed (number_of n) a
          (reply_owed n.memory.side.heap_request (heap_way o 0 i) n.memory.coherence.done) ++ along_owed n)
          asked
          ∙ ap (λ y. owed (number_of n) (Some called) y ++ along_owed n)
          (told-owed n.memory.side.heap_request (heap_way o 0 i) n.memory.coherence.done r
          (λ y e. (good.memory.apart y e).1) is)

      along_calls : (r : Reply) → reply_at n.memory ≡ Some r
          → map (λ x. x.call) (along_owed n) ≡ n.memory.along
      along_calls r is = elim (pending-calls ops c i n good running (heap_way o 0 i)) [
        | inl none ↦ absurd (let f : record { node = number_of n; call = called; reply = r }
            ∷ along_owed n ≡ [] = sym (owed_first r is) ∙ none in cc)
        | inr calls ↦
            ap (drop 1) (sym (ap (λ xs. map (λ x. x.call) xs) (owed_first r is)) ∙ calls
            ∙ ap (λ a. in_progress a n.memory.along) asked)
      ]

      -- the reply is there
      replied_stands : (r : Reply) → reply_at n.memory ≡ Some r → Stands ops i n order memory
      replied_stands r is =
          replied called r asked
          (record {
            after = recorded n (taken_out n.memory) called r;
            turned = replied_turn ops n called asked r is;
            history =
                ap (λ k. n.history ++ record { node = k; call = called; reply = r } ∷ []) good.me;
            idle = λ alone. ap (λ ks. (taken_with n.memory ks).asked) alone;
          })
          (along_owed n) (along_calls r is)
          (part_is (record { node = i; call = called; reply = r } ∷ along_owed n)
          (owed_first r is
          ∙ ap (λ k. record { node = k; call = called; reply = r } ∷ along_owed n) good.me))

      -- It is not.
      module _ (none : reply_at n.memory ≡ None) where
        untold : (reply_told n.memory.side.heap_request ≡ None)
            × (reply_there n.memory.coherence.done ≡ None)
        untold =
            first_none (reply_told n.memory.side.heap_request) (reply_there n.memory.coherence.done) none

        -- so no call was made along with it
        alone : n.memory.along ≡ []
        alone = at n.memory.coherence.done refl
          where
            at : (d : Option Out) → n.memory.coherence.done ≡ d → n.memory.along ≡ []
            at None is = running.idle free is
            at (Some out) is = elim (running.told out is) [
              | inl none_along ↦ none_along
              | inr h ↦ absurd (none-some h.0.0 (sym untold.1 ∙ ap reply_there is ∙ h.0.1))
            ]

        -- a call of the heap would have it
        no_heap : (k : HeapCall) → asked_of c called ≡ kinds.Heap k → ⊥
        no_heap k is =
            let have : HaveHeapRequests o = have_heap_requests o sound in
            let for : IsHeapRequestFor k (length n.history + 1) n.memory.side.heap_request =
            have.each i n k there
            (record {
              call = called;
              asked = asked;
              of = ap (λ d. asked_of d called) good.config ∙ is;
            }) in
            let away : i ≢ 0 =
            λ home. subst (IsHeapRequestFor k (length n.history + 1))
            (have.none n (ap (slice_get o.cores) (sym home) ∙ there)) for in
            told_reply i k (length n.history + 1) n.memory.side.heap_request (heap_way o i 0)
            (heap_way o 0 i) (no_heap_request_way o all i 0) (no_heap_request_way o all 0 i) for
            (sound.heap_requests.each i n away there) untold.0

        -- a word of a page is owed no record
        none_owed : (page : ℕ) (w : Word) → asked_of c called ≡ kinds.Word page w
            → pending n (heap_way o 0 i) ≡ []
        none_owed page w of =
            let heap_requests : n.memory.side.heap_request ≡ None =
            no_heap_request_of n.memory.coherence.config n.memory.asked n.memory.side.heap_request
            (λ k at h heap. absurd (
            let f : kinds.Word page w ≡ kinds.Heap h =
            sym of ∙ ap (λ d. asked_of d called) (sym good.config)
            ∙ ap (asked_of n.memory.coherence.config) (same_Some called k (sym asked ∙ at)) ∙ heap
            in cc
            )) good.memory.side.heap_request in
            none_pending _ (along_owed n)
            (owed-untold (number_of n) n.memory.asked
            (reply_owed n.memory.side.heap_request (heap_way o 0 i) n.memory.coherence.done)
            (ap (λ e. reply_owed e (heap_way o 0 i) n.memory.coherence.done) heap_requests
            ∙ untold.1))
            (untold-along c n running untold.1)

        -- it is an await
        module _ (page offset least : ℕ)
            (of : asked_of c called ≡ kinds.Word page (word.Await offset least)) where
          await : IsAwait c called page offset least
          await = await_is c called page offset least of

          asks_await : n.memory.asked ≡ Some (Await await.count least)
          asks_await = asked ∙ ap Some await.is

          await_alone : in_progress n.memory.asked n.memory.along ≡ Await await.count least ∷ []
          await_alone =
              ap (λ a. in_progress a n.memory.along) asks_await
              ∙ ap (λ ks. Await await.count least ∷ ks) alone

          -- a copy that the node may read has the count of the flat memory
          same_count : (v : ℕ) → slice_get memory.counts await.count ≡ Some v
              → readable (entry_at n.memory.coherence.table page) ≡ true
              → number_at 8 offset (page_at n.memory.coherence.table page) ≡ v
          same_count v is read =
              let inside : page < c.pages =
              (let a = await.first in let b = config.pages_from in omega (arith, a, b)) in
              let bytes : page_at n.memory.coherence.table page ≡ flat_page c memory page =
              ap (λ z. page_of z page) (sym there)
              ∙ copied.had i page (inl (ap (λ z. readable (entry_of z page)) there ∙ read))
              ∙ faithful.shows page inside in
              ap (number_at 8 offset) bytes
              ∙ ap (λ p. number_at 8 offset (flat_page c memory p)) await.first
              ∙ ap (λ a. number_at 8 a (flat_page c memory 0)) await.at
              ∙ read_count memory.counts await.count v is (sized.words await.count v is)

          module _ (count : ℕ) (counted : slice_get memory.counts await.count ≡ Some count) where
            abbrev Next : Type 0
            Next = IsAnsweredNext ops i n (Await await.count least) (Value count)
                ⊎ AsksForCountsNext ops i n

            -- the turn of the node, where the count is high enough
            next_idle : nat_le least count ≡ true → (s : IdleState)
                → entry_at n.memory.coherence.table page ≡ entry.Idle s → (b : Bool)
                → reads s.access ≡ b → Next
            next_idle enough s at true read =
                let t = await_answered ops n called asked c good.config none free page offset least of
                s at read count (same_count count counted (ap readable at ∙ read)) enough in
                inl (subst (λ k. IsAnsweredNext ops i n k (Value count)) await.is
                (record {
                  after = t.0;
                  turned = t.1;
                  history = t.2 ∙ ap (λ k. n.history
                      ++ record { node = k; call = called; reply = Value count } ∷ []) good.me;
                  idle = λ alone. t.3;
                }))
            next_idle enough s at false unread =
                let t = await_asks ops n called asked c good.config none free page offset least of s at
                unread in
                inr (record {
                  without =
                      ap (λ p. readable (entry_at n.memory.coherence.table p)) (sym await.first)
                      ∙ ap readable at ∙ unread;
                  outcome = t.0;
                  turned = t.1;
                  parcel = t.2;
                  posted = t.3;
                  asks = t.4 ∙ ap content.ReadReq await.first;
                })

            next_at : nat_le least count ≡ true → (e : Entry)
                → entry_at n.memory.coherence.table page ≡ e → Next
            next_at enough (entry.Idle s) at = next_idle enough s at (reads s.access) refl
            next_at enough (entry.AwaitRead s) at =
                absurd (let f : true ≡ false = ap is_locked (sym at) ∙ idle page in cc)
            next_at enough (entry.AwaitWrite s) at =
                absurd (let f : true ≡ false = ap is_locked (sym at) ∙ idle page in cc)
            next_at enough (entry.AwaitAcks s) at =
                absurd (let f : true ≡ false = ap is_locked (sym at) ∙ idle page in cc)

            counted_stands : (b : Bool) → nat_le least count ≡ b → Stands ops i n order memory
            counted_stands false few =
                waits
                (subst (HasNoAnswer memory) (sym await_alone)
                (count, counted, leb-false least count few))
                (part_whole (none_owed page (word.Await offset least) of))
            counted_stands true enough =
                reached await.count least count asks_await counted (leb-true least count enough)
                (next_at enough (entry_at n.memory.coherence.table page) refl)
                (part_whole (none_owed page (word.Await offset least) of))

          await_stands : Stands ops i n order memory
          await_stands = elim (slice_get_cases memory.counts await.count).1 [
            | inl here ↦ counted_stands here.0 here.2 (nat_le least here.0) refl
            | inr past ↦
                absurd (let a = past.0 in let b = sized.counts in let d = await.there in
                omega (arith, a, b, d))
          ]

        -- whatever else asks for a word of a page would wait for it, or have the reply, unless the
        -- page was handed
        tried_stands : (page : ℕ) (w : Word) → asked_of c called ≡ kinds.Word page w → IsPlain w
            → IsHanded n page → Stands ops i n order memory
        tried_stands page w of plain handed =
            tried called page w asked (ap (λ d. asked_of d called) good.config ∙ of) handed
            (by_entry (entry_at n.memory.coherence.table page) refl)
            (part_whole (none_owed page w of))
          where
            by_idle : (s : IdleState) → entry_at n.memory.coherence.table page ≡ entry.Idle s
                → IsDoneNext ops i n called page
            by_idle s at =
                elim (word_turn ops n called asked c good.config none free page w of s at
                (λ offset least e. subst IsPlain e plain)) [
                  | inl t ↦ inl (
                    t.1,
                    record {
                      after = t.0;
                      turned = t.2;
                      history = t.3 ∙ ap (λ k. n.history
                          ++ record { node = k; call = called; reply = t.1 } ∷ []) good.me;
                      idle = λ alone. t.4;
                    },
                  )
                  | inr t ↦ inr t
                ]

            by_entry : (e : Entry) → entry_at n.memory.coherence.table page ≡ e
                → IsDoneNext ops i n called page
            by_entry (entry.Idle s) at = by_idle s at
            by_entry (entry.AwaitRead s) at =
                absurd (let f : true ≡ false = ap is_locked (sym at) ∙ idle page in cc)
            by_entry (entry.AwaitWrite s) at =
                absurd (let f : true ≡ false = ap is_locked (sym at) ∙ idle page in cc)
            by_entry (entry.AwaitAcks s) at =
                absurd (let f : true ≡ false = ap is_locked (sym at) ∙ idle page in cc)

        word_stands : (page : ℕ) (w : Word) → asked_of c called ≡ kinds.Word page w → Stands ops i n order memory
        word_stands page (word.Await offset least) of = await_stands page offset least of
        word_stands page w of =
            tried_stands page _ of tt
            ((pursued i n there).pursued called page _ asked of tt free untold.1)

        untold_stands : (kind : Asked) → asked_of c called ≡ kind → Stands ops i n order memory
        untold_stands (kinds.Refused code) is = absurd (servable i n there called code asked is)
        untold_stands (kinds.Heap k) is = absurd (no_heap k is)
        untold_stands (kinds.Word page w) is = word_stands page w is

      asked_stands : (r : Option Reply) → reply_at n.memory ≡ r
          → Stands ops i n order memory
      asked_stands (Some r) is = replied_stands r is
      asked_stands None is = untold_stands is (asked_of c called) refl

    stands : (a : Option Call) → n.memory.asked ≡ a
        → Stands ops i n order memory
    stands (Some called) is = asked_stands called is (reply_at n.memory) refl
    stands None is =
        waits (subst (HasNoAnswer memory) (sym (ap (λ a. in_progress a n.memory.along) is)) tt)
        (part_whole
        (none_pending _ (along_owed n)
        (owed-unasked (number_of n) n.memory.asked
        (reply_owed n.memory.side.heap_request (heap_way o 0 i) n.memory.coherence.done) is)
        (then-alone (number_of n) n.memory.along n.memory.coherence.done
        n.memory.coherence.done_more (good.memory.alone is))))

  pub order_unblocked : AreUnblocked ops c o.cores
  order_unblocked = record {
    order = order;
    last = memory;
    legal = faithful.legal;
    each = λ i n there. stands i n there n.memory.asked refl;
  }

-- Where no turn does anything either, each node's history is its part of the order, and the flat
-- memory has no answer.
module _ {S : Type 0} (ops : Ops S) (c : Config) (nodes : List (Host S))
    (free : AreUnblocked ops c nodes)
    (turns : (i : ℕ) (n : Host S) → slice_get nodes i ≡ Some n → turn_of ops n ≡ None) where
  open free use {order, last, legal, each}

  -- a turn that answers does something
  no_answer : (i : ℕ) (n : Host S) (called : Call) (r : Reply) → turn_of ops n ≡ None
      → IsAnsweredNext ops i n called r → ⊥
  no_answer i n called r none next = none-some _ (sym none ∙ next.turned)

  left : (i : ℕ) (n : Host S) → turn_of ops n ≡ None → Stands ops i n order last
      → HasNoAnswer last (in_progress n.memory.asked n.memory.along) × (part i order ≡ n.history)
  left i n none (waits low whole) = (low, whole)
  left i n none (replied called r asked next more along whole) = absurd (no_answer i n called r none next)
  left i n none (reached k least count asked there enough (inl next) whole) =
      absurd (no_answer i n (Await k least) (Value count) none next)
  left i n none (reached k least count asked there enough (inr next) whole) =
      absurd (none-some next.outcome (sym none ∙ next.turned))
  left i n none (tried called page w asked of handed (inl next) whole) =
      absurd (no_answer i n called next.0 none next.1)
  left i n none (tried called page w asked of handed (inr next) whole) =
      absurd (none-some next.0 (sym none ∙ next.1))

  pub unblocked_settled : AreSettled c (map (λ (n : Host S). answered_by n) nodes)
  unblocked_settled = record {
    order = order;
    last = last;
    legal = legal;
    parts = λ i a h. (
        let found = map-places (λ (n : Host S). answered_by n) nodes i a h in
        (left i found.0 (turns i found.0 found.1) (each i found.0 found.1)).1
        ∙ ap (λ (x : Answered). x.history) found.2
        );
    waits = λ i a h. (
        let found = map-places (λ (n : Host S). answered_by n) nodes i a h in
        subst (λ (x : Answered). HasNoAnswer last x.asked) found.2
        (left i found.0 (turns i found.0 found.1) (each i found.0 found.1)).0
        );
  }
