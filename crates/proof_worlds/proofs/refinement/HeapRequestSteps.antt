-- Each step of the FIFO world keeps what stands of the calls that node 0 was asked for.
use Rattle.std.proofs.Common.{◌≡◌, ◌≢◌, ℕ, true, false, List, [], ◌∷◌, ◌++◌, drop, slice_get, slice_set, Option, Some, None, refl, sym, ap, ◌∙◌, subst, inl, inr}
use Rattle.std.specs.Prelude.{All}
use Rattle.std.proofs.lemmas.Bool.{cases_eq}
use Rattle.std.proofs.lemmas.List.{append-nil}
use Rattle.std.proofs.lemmas.Option.{same_Some, none-some}
use Rattle.ivy_model.specs.declared.Config.{Config}
use Rattle.ivy_model.specs.declared.Call.{Call}
use Rattle.ivy_model.specs.declared.Reply.{Reply}
use Rattle.ivy_model.specs.declared.Reply.TheVariants.{Value, Done, Refused}
use Rattle.ivy_wire.specs.stated.Data.{Message, Parcel}
use Rattle.ivy_wire.specs.stated.Posts.{parcel_to}
use Rattle.ivy_link.specs.stated.Paired.{posted, extended}
use Rattle.ivy_pagetable.specs.stated.Manager.{Ops}
use Rattle.ivy_coherence.proofs.keeping.IdleServing.{all_none}
use Rattle.ivy_alloc.specs.stated.Heap.{HeapState}
use Rattle.ivy_alloc.specs.Laws.{IsAllocReply}
use Rattle.ivy_alloc.proofs.Answered.{has_replies}
use Rattle.ivy_moves.specs.stated.Cores.{Outcome}
use Rattle.ivy_moves.specs.stated.FifoWorld.{FifoWorld, Turns, Delivers}
use Rattle.ivy_memory.specs.declared.Asked.TheVariants as kinds
use Rattle.ivy_alloc.specs.declared.HeapCall.{HeapCall}
use Rattle.ivy_alloc.specs.declared.HeapCall.TheVariants.{Alloc, Free}
use Rattle.ivy_alloc.specs.declared.HeapRequest.{HeapRequest}
use Rattle.ivy_alloc.specs.declared.HeapRequest.TheVariants as heap_request
use Rattle.ivy_memory.specs.stated.Asking.{asked_of}
use Rattle.ivy_alloc.specs.stated.HeapCalls.{told_of, request, answer_to, reply_told}
use Rattle.ivy_memory.specs.stated.Memories.{first_reply, reply_there}
use Rattle.ivy_alloc.proofs.HeapSides.{request_heap, answer_heap, replied}
use Rattle.ivy_memory.proofs.serving.Pages.{is_of_pages, IsOfPages, begun-pages, no_heap_request_of}
use Rattle.ivy_memory.proofs.keeping.WellBehaved.{idle_side}
use Rattle.ivy_host.specs.stated.Hosts.{Host, serving, host_rules}
use Rattle.ivy_host.specs.stated.Sound.{IsSoundHost}
use Rattle.ivy_host.proofs.Pages.{page_serving, serve-pages}
use Rattle.proof_worlds.specs.stated.HeapRequests.{about_heap, heap_way, call_message, CanHave, IsAtRest, IsHeapRequestAt, resting, asking, answered, AreHeapRequests}
use Rattle.proof_worlds.proofs.refinement.Led.{get_set}
use Rattle.proof_worlds.proofs.refinement.HeapWays.{IsWithin, heap_there, heap_elsewhere, way_turned, way_still, way_other, way_page, way_taken}
use Rattle.proof_worlds.proofs.refinement.HeapDeliveries.{HeapDelivery, serves, learns}
use Rattle.proof_worlds.proofs.refinement.HostTurns.{HostTurn, answers, tries_again, goes_on, refuses, asks_for, serves_heap, asks_heap, carries_fetch, number_of, without_call, made_along, taken-heap_request, asked_posted, asked_side}
use Rattle.proof_worlds.proofs.refinement.FetchTurns.{carried-leaves}
use Rattle.ivy_memory.specs.stated.Beside.{nothing_beside}

-- What a turn of node x does to its request of the heap: it posts about pages alone and leaves the request of the heap, or
-- ends it, where no answer is owed; or it asks node 0.
data TurnHeapRequest (x : ℕ) (before after : Option HeapRequest) (ps : List Parcel) : Type 0 where
  leaves : All IsOfPages ps → after ≡ before → TurnHeapRequest x before after ps
  closes : All IsOfPages ps → IsAtRest before → IsAtRest after → TurnHeapRequest x before after ps
  begins : (k : HeapCall) (number : ℕ) → x ≢ 0 → IsAtRest before
      → after ≡ Some (heap_request.Asked k number) → ps ≡ parcel_to x 0 x number (request k) ∷ []
      → TurnHeapRequest x before after ps

module _ {S : Type 0} {ops : Ops S} {c : Config} {x : ℕ} {h : Host S} (good : IsSoundHost ops c x h)
  where
    rests : h.memory.side.heap_request ≡ None → IsAtRest h.memory.side.heap_request
    rests none = subst IsAtRest (sym none) tt

    -- no answer is owed where the reply is there
    rest_replied : (r : Reply) (e : Option HeapRequest) → h.memory.side.heap_request ≡ e
        → first_reply (reply_told e) (reply_there h.memory.coherence.done) ≡ Some r → IsAtRest e
    rest_replied r None is there = tt
    rest_replied r (Some (heap_request.Told q)) is there = tt
    rest_replied r (Some (heap_request.Asked k number)) is there =
        none-some r (sym (ap reply_there (good.memory.apart (heap_request.Asked k number) is).1) ∙ there)

    word_rests : (called : Call) (page : ℕ) → (w : _) → h.memory.asked ≡ Some called
        → asked_of h.memory.coherence.config called ≡ kinds.Word page w → h.memory.side.heap_request ≡ None
    word_rests called page w asked of =
        no_heap_request_of h.memory.coherence.config h.memory.asked h.memory.side.heap_request
        (λ k is heap same.
        (let e =
        sym of ∙ ap (asked_of h.memory.coherence.config) (same_Some called k (sym asked ∙ is))
        ∙ same in absurd cc)) good.memory.side.heap_request

    turn_heap_request : (out : Outcome (Host S)) → HostTurn ops c h out
        → TurnHeapRequest x h.memory.side.heap_request out.after.memory.side.heap_request out.posted
    turn_heap_request out (answers called r asked there is) =
        subst (λ (z : Outcome (Host S)). TurnHeapRequest x h.memory.side.heap_request z.after.memory.side.heap_request
        z.posted) (sym is)
        (closes (all_none IsOfPages) (rest_replied r h.memory.side.heap_request refl there)
        (subst (λ z. IsAtRest z.heap_request) (sym (taken-heap_request h.memory h.memory.along)) tt))
    turn_heap_request out (tries_again called page word asked untold free of inside is_word is) =
        closes (subst (All IsOfPages)
        (sym (asked_posted ops (without_call h) called nothing_beside page word out is))
        (begun-pages ops (without_call h).memory.coherence page word (number_of h)))
        (rests (word_rests called page word asked of))
        (subst (λ z. IsAtRest z.heap_request)
        (sym (asked_side ops (without_call h) called nothing_beside page word out is)) tt)
    turn_heap_request out (goes_on s idle step is) =
        subst (λ (z : Outcome (Host S)). TurnHeapRequest x h.memory.side.heap_request z.after.memory.side.heap_request
        z.posted) (sym is) (leaves (all_none IsOfPages) refl)
    turn_heap_request out (refuses called code idle step of is) =
        subst (λ (z : Outcome (Host S)). TurnHeapRequest x h.memory.side.heap_request z.after.memory.side.heap_request
        z.posted) (sym is) (leaves (all_none IsOfPages) refl)
    turn_heap_request out (asks_for called page word idle step of inside is_word few is) =
        leaves (subst (All IsOfPages)
        (sym (asked_posted ops h called (made_along h page word) page word out is))
        (begun-pages ops h.memory.coherence page word (number_of h)))
        (ap (λ z. z.heap_request) (asked_side ops h called (made_along h page word) page word out is))
    turn_heap_request out (serves_heap called k heap idle step of there is) =
        subst (λ (z : Outcome (Host S)). TurnHeapRequest x h.memory.side.heap_request z.after.memory.side.heap_request
        z.posted) (sym is) (leaves (all_none IsOfPages) refl)
    turn_heap_request out (asks_heap called k idle step of none is) =
        subst (λ (z : Outcome (Host S)). TurnHeapRequest x h.memory.side.heap_request z.after.memory.side.heap_request
        z.posted) (sym is)
        (begins k (number_of h) (λ e. good.memory.side.away none (good.me ∙ e))
        (rests (idle_side h.memory good.memory idle)) refl
        (ap (λ i. parcel_to i 0 i (number_of h) (request k) ∷ []) good.me))
    turn_heap_request out (carries_fetch fetch next is) =
        let left = carried-leaves ops h fetch good.memory.coherent in
        subst (λ (z : Outcome (Host S)). TurnHeapRequest x h.memory.side.heap_request z.after.memory.side.heap_request
        z.posted) (sym is) (leaves left.pages (ap (λ z. z.heap_request) left.side))

-- the heap answers a call with a reply that the call can have
some_reply : (c : Config) (size : ℕ) (r : Reply) → IsAllocReply c size r → CanHave (Alloc size) r
some_reply c size (Value addr) is = is.0
some_reply c size Done is = is
some_reply c size (Refused code) is = is

can_have : (state : HeapState) (k : HeapCall) → CanHave k (told_of state k).reply
can_have state (Alloc size) =
    some_reply state.config size _ (has_replies state.config state.blocks size).0
can_have state (Free addr) = (has_replies state.config state.blocks addr).1

-- the same request of the heap, by the same ways
as_before : (i : ℕ) (e d : Option HeapRequest) (a b a' b' : List Message) → d ≡ e → a' ≡ a → b' ≡ b
    → IsHeapRequestAt i e a b → IsHeapRequestAt i d a' b'
as_before i e d a b a' b' same there back is =
    subst (λ z. IsHeapRequestAt i z a' b') (sym same)
    (subst (λ z. IsHeapRequestAt i e z b') (sym there)
    (subst (λ z. IsHeapRequestAt i e a z) (sym back) is))

-- where no answer is owed, both ways are empty
empty_ways : {i : ℕ} {e : Option HeapRequest} {a b : List Message} → IsHeapRequestAt i e a b → IsAtRest e
    → (a ≡ []) × (b ≡ [])
empty_ways (resting rest there back) h = (there, back)
empty_ways (asking k number asks there back) h = absurd (subst IsAtRest asks h)
empty_ways (answered k number body r asks there back tells can) h = absurd (subst IsAtRest asks h)

-- what is left after the one message there is
tail_of : (m : Message) (rest : List Message) → m ∷ rest ≡ m ∷ [] → rest ≡ []
tail_of m rest is = ap (drop 1) is

-- where an answer is under way, no request is
none_there : {i : ℕ} {e : Option HeapRequest} {a b : List Message} → IsHeapRequestAt i e a b → (m : Message)
    → b ≡ m ∷ [] → a ≡ []
none_there (resting rest there back) m some = there
none_there (asking k number asks there back) m some =
    absurd (none-some m (ap (λ (z : List Message). slice_get z 0) (sym back ∙ some)))
none_there (answered k number body r asks there back tells can) m some = there

module _ {S : Type 0} (o o' : FifoWorld (Host S)) (x : ℕ) (h after : Host S)
    (there : slice_get o.cores x ≡ Some h) (cores : o'.cores ≡ slice_set o.cores x after)
    (heap_requests : AreHeapRequests o) where
  -- an event of node x: the ways of each other node, and of that one
  each_of : ((i : ℕ) (k : Host S) → i ≢ 0 → i ≢ x → slice_get o.cores i ≡ Some k
      → IsHeapRequestAt i k.memory.side.heap_request (heap_way o' i 0) (heap_way o' 0 i))
      → (x ≢ 0 → IsHeapRequestAt x after.memory.side.heap_request (heap_way o' x 0) (heap_way o' 0 x))
      → (i : ℕ) (k : Host S) → i ≢ 0 → slice_get o'.cores i ≡ Some k
      → IsHeapRequestAt i k.memory.side.heap_request (heap_way o' i 0) (heap_way o' 0 i)
  each_of others own i k away at = elim (get_set o.cores x h after i there) [
    | inl y ↦
        subst (λ (z : Host S). IsHeapRequestAt i z.memory.side.heap_request (heap_way o' i 0)
        (heap_way o' 0 i)) (same_Some after k (sym y.1 ∙ ap (λ l. slice_get l i) (sym cores) ∙ at))
        (subst (λ z. IsHeapRequestAt z after.memory.side.heap_request (heap_way o' z 0) (heap_way o' 0 z))
        (sym y.0) (own (λ e. away (y.0 ∙ e))))
    | inr y ↦ others i k away y.0 (sym y.1 ∙ ap (λ l. slice_get l i) (sym cores) ∙ at)
  ]

  -- one that leaves the ways as they are
  quiet_event : ((i j : ℕ) → heap_way o' i j ≡ heap_way o i j)
      → (x ≢ 0 → IsHeapRequestAt x h.memory.side.heap_request (heap_way o x 0) (heap_way o 0 x)
      → IsHeapRequestAt x after.memory.side.heap_request (heap_way o x 0) (heap_way o 0 x)) → AreHeapRequests o'
  quiet_event ways own = record {
    apart = λ i j a b. ways i j ∙ heap_requests.apart i j a b;
    home = ways 0 0 ∙ heap_requests.home;
    each = each_of
        (λ i k away other at. as_before i _ _ _ _ _ _ refl (ways i 0) (ways 0 i)
        (heap_requests.each i k away at))
        (λ away. as_before x _ _ _ _ _ _ refl (ways x 0) (ways 0 x)
        (own away (heap_requests.each x h away there)));
  }

  module _ (ps : List Parcel) (within : IsWithin o) (sent : o'.posted ≡ extended o.posted ps)
      (done : o'.delivered ≡ o.delivered) where
    -- node x asks node 0
    asks_event : (k : HeapCall) (number : ℕ) → x ≢ 0 → IsAtRest h.memory.side.heap_request
        → after.memory.side.heap_request ≡ Some (heap_request.Asked k number)
        → ps ≡ parcel_to x 0 x number (request k) ∷ [] → AreHeapRequests o'
    asks_event k number away rest asks posts =
        let way : (i j : ℕ)
        → heap_way o' i j
        ≡ heap_way o i j ++ about_heap (posted i j (parcel_to x 0 x number (request k) ∷ []))
        = λ i j. way_turned o o' ps within sent done i j
        ∙ ap (λ l. heap_way o i j ++ about_heap (posted i j l)) posts in
        let same : (i j : ℕ) → (x ≡ i → 0 ≢ j) → heap_way o' i j ≡ heap_way o i j
        = λ i j other. way i j
        ∙ ap (λ l. heap_way o i j ++ l) (heap_elsewhere x 0 i j x number (request k) other)
        ∙ append-nil (heap_way o i j) in
        let none = empty_ways (heap_requests.each x h away there) rest in
        record {
          apart = λ i j a b. same i j (λ e z. b (sym z)) ∙ heap_requests.apart i j a b;
          home = same 0 0 (λ e. absurd (away e)) ∙ heap_requests.home;
          each = each_of
              (λ i g off other at. as_before i _ _ _ _ _ _ refl
              (same i 0 (λ e. absurd (other (sym e)))) (same 0 i (λ e. absurd (away e)))
              (heap_requests.each i g off at))
              (λ off. asking k number asks
              (way x 0
              ∙ ap (λ l. l ++ about_heap (posted x 0 (parcel_to x 0 x number (request k) ∷ [])))
              none.0 ∙ heap_there x 0 x number (request k) (request_heap k))
              (same 0 x (λ e. absurd (away e)) ∙ none.1));
        }

    turned_heap_requests : TurnHeapRequest x h.memory.side.heap_request after.memory.side.heap_request ps → AreHeapRequests o'
    turned_heap_requests (leaves pages same) =
        quiet_event (way_still o o' ps within sent done pages)
        (λ away is. as_before x _ _ _ _ _ _ same refl refl is)
    turned_heap_requests (closes pages before rest) =
        quiet_event (way_still o o' ps within sent done pages)
        (λ away is. (let none = empty_ways is before in resting rest none.0 none.1))
    turned_heap_requests (begins k number away rest asks posts) = asks_event k number away rest asks posts

module _ {S : Type 0} (ops : Ops S) (o o' : FifoWorld (Host S)) (within : IsWithin o)
    (heap_requests : AreHeapRequests o) where
  -- a turn keeps the requests of the heap
  pub turn_heap_requests : (c : Config) (x : ℕ) (t : Turns (host_rules ops) o x o')
      → IsSoundHost ops c x t.core → HostTurn ops c t.core t.outcome → AreHeapRequests o'
  turn_heap_requests c x t good turn =
      turned_heap_requests o o' x t.core t.outcome.after t.there t.cores heap_requests t.outcome.posted within
      t.posted t.delivered (turn_heap_request good t.outcome turn)

  module _ (source x : ℕ) (t : Delivers (host_rules ops) o source x o') where
    abbrev after : Host S
    after = (serving ops t.core source t.message).after

    abbrev sent : List Parcel
    sent = (serving ops t.core source t.message).posted

    -- and so does a message about a page
    pub page_heap_requests : is_of_pages t.message.content ≡ true → AreHeapRequests o'
    page_heap_requests about =
        quiet_event o o' x t.core after t.there t.cores heap_requests
        (way_page (host_rules ops) o o' within source x t about
        (serve-pages ops t.core source t.message about))
        (λ away is. as_before x _ _ _ _ _ _
        (ap (λ (z : Outcome (Host S)). z.after.memory.side.heap_request)
        (page_serving ops t.core source t.message about)) refl refl is)

    -- node 0 serves the request: its answer is the one under way then
    served_heap_requests : is_of_pages t.message.content ≡ false → x ≡ 0 → source ≢ 0 → (asker : Host S)
        → slice_get o.cores source ≡ Some asker → (k : HeapCall) (number : ℕ)
        → asker.memory.side.heap_request ≡ Some (heap_request.Asked k number)
        → heap_way o source 0 ≡ t.message ∷ [] → heap_way o 0 source ≡ [] → (state : HeapState)
        → sent ≡ parcel_to x source source number (answer_to k (told_of state k).reply) ∷ []
        → AreHeapRequests o'
    served_heap_requests heap home away asker at k number asks on_way none state posts =
        let body = answer_to k (told_of state k).reply in
        let other : (i j : ℕ) → (i ≡ source → j ≢ x)
        → heap_way o' i j
        ≡ heap_way o i j ++ about_heap (posted i j (parcel_to x source source number body ∷ []))
        = λ i j off. way_other (host_rules ops) o o' within source x t i j off
        ∙ ap (λ l. heap_way o i j ++ about_heap (posted i j l)) posts in
        let still : (i j : ℕ) → (i ≡ source → j ≢ x) → (x ≡ i → source ≢ j)
        → heap_way o' i j ≡ heap_way o i j
        = λ i j off elsewhere. other i j off
        ∙ ap (λ l. heap_way o i j ++ l)
        (heap_elsewhere x source i j source number body elsewhere)
        ∙ append-nil (heap_way o i j) in
        let taken = way_taken (host_rules ops) o o' within source x t heap in
        let left : taken.0 ≡ [] =
        tail_of t.message taken.0
        (sym taken.1 ∙ subst (λ z. heap_way o source z ≡ t.message ∷ []) (sym home) on_way) in
        let gone : heap_way o' source x ≡ []
        = taken.2 ∙ ap (λ l. l ++ about_heap (posted source x sent)) left
        ∙ ap (λ l. about_heap (posted source x l)) posts
        ∙ heap_elsewhere x source source x source number body (λ e. absurd (away (sym e ∙ home))) in
        let comes : heap_way o' 0 source ≡ call_message source number body ∷ []
        = other 0 source (λ e. absurd (away (sym e)))
        ∙ ap (λ l. l ++ about_heap
        (posted 0 source (parcel_to x source source number body ∷ []))) none
        ∙ ap (λ z. about_heap (posted 0 source (parcel_to z source source number body ∷ []))) home
        ∙ heap_there 0 source source number body (answer_heap k (told_of state k).reply) in
        let asker_now : IsHeapRequestAt source asker.memory.side.heap_request (heap_way o' source 0)
        (heap_way o' 0 source)
        = answered k number body (told_of state k).reply asks
        (subst (λ z. heap_way o' source z ≡ []) home gone) comes (replied state k)
        (can_have state k) in
        let others : (i : ℕ) (g : Host S) → i ≢ 0 → i ≢ source → slice_get o.cores i ≡ Some g
        → IsHeapRequestAt i g.memory.side.heap_request (heap_way o' i 0) (heap_way o' 0 i)
        = λ i g off ne there. as_before i _ _ _ _ _ _ refl
        (still i 0 (λ e. absurd (ne e)) (λ e z. away z))
        (still 0 i (λ e. absurd (away (sym e))) (λ e z. ne (sym z)))
        (heap_requests.each i g off there) in
        record {
          apart = λ i j a b. still i j (λ e z. b (z ∙ home)) (λ e. absurd (a (sym e ∙ home)))
              ∙ heap_requests.apart i j a b;
          home = still 0 0 (λ e. absurd (away (sym e))) (λ e z. away z) ∙ heap_requests.home;
          each = each_of o o' x t.core after t.there t.cores heap_requests
              (λ i g off ne there. elim (cases_eq i source) [
                | inl y ↦
                    subst (λ (z : Host S). IsHeapRequestAt i z.memory.side.heap_request (heap_way o' i 0)
                    (heap_way o' 0 i))
                    (same_Some asker g (sym at ∙ ap (slice_get o.cores) (sym y) ∙ there))
                    (subst (λ z. IsHeapRequestAt z asker.memory.side.heap_request (heap_way o' z 0)
                    (heap_way o' 0 z)) (sym y) asker_now)
                | inr other_node ↦ others i g off other_node there
              ])
              (λ off. absurd (off home));
        }

    -- the node that asked learns the reply
    learned_heap_requests : is_of_pages t.message.content ≡ false → x ≢ 0 → source ≡ 0
        → heap_way o 0 x ≡ t.message ∷ [] → IsAtRest after.memory.side.heap_request → sent ≡ []
        → AreHeapRequests o'
    learned_heap_requests heap away home back rests posts =
        let other : (i j : ℕ) → (i ≡ source → j ≢ x) → heap_way o' i j ≡ heap_way o i j
        = λ i j off. way_other (host_rules ops) o o' within source x t i j off
        ∙ ap (λ l. heap_way o i j ++ about_heap (posted i j l)) posts
        ∙ append-nil (heap_way o i j) in
        let taken = way_taken (host_rules ops) o o' within source x t heap in
        let left : taken.0 ≡ [] =
        tail_of t.message taken.0
        (sym taken.1 ∙ subst (λ z. heap_way o z x ≡ t.message ∷ []) (sym home) back) in
        let gone : heap_way o' source x ≡ []
        = taken.2 ∙ ap (λ l. l ++ about_heap (posted source x sent)) left
        ∙ ap (λ l. about_heap (posted source x l)) posts in
        record {
          apart = λ i j a b. other i j (λ e. absurd (a (e ∙ home))) ∙ heap_requests.apart i j a b;
          home = other 0 0 (λ e z. away (sym z)) ∙ heap_requests.home;
          each = each_of o o' x t.core after t.there t.cores heap_requests
              (λ i g off ne there. as_before i _ _ _ _ _ _ refl (other i 0 (λ e z. away (sym z)))
              (other 0 i (λ e. ne)) (heap_requests.each i g off there))
              (λ off. resting rests
              (other x 0 (λ e z. away (sym z))
              ∙ none_there (heap_requests.each x t.core away t.there) t.message back)
              (subst (λ z. heap_way o' z x ≡ []) home gone));
        }

    -- and so does a message of the heap
    pub requests_of_heap : is_of_pages t.message.content ≡ false
        → HeapDelivery ops o source x t.core t.message → AreHeapRequests o'
    requests_of_heap heap (serves home away asker at k number asks on_way none same state is does) =
        served_heap_requests heap home away asker at k number asks on_way none state
        (ap (λ (z : Outcome (Host S)). z.posted) does)
    requests_of_heap heap (learns away home k number r asks back tells does) =
        learned_heap_requests heap away home back
        (subst (λ (z : Outcome (Host S)). IsAtRest z.after.memory.side.heap_request) (sym does) tt)
        (ap (λ (z : Outcome (Host S)). z.posted) does)
