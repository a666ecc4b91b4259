-- A message of the heap that is delivered fits a rule: node 0 serves a call of the node that asked,
-- or that node learns the reply.
use Rattle.std.proofs.Common.{◌≡◌, ◌≢◌, ◌<◌, ℕ, false, List, [], ◌∷◌, length, slice_get, Option, Some, None, refl, sym, ap, ◌∙◌, subst, inl, inr, arith}
use Rattle.std.proofs.lemmas.Bool.{cases_eq}
use Rattle.std.proofs.lemmas.Option.{same_Some, none-some, slice_get_cases}
use Rattle.ivy_model.specs.declared.Config.{Config}
use Rattle.ivy_model.specs.declared.Reply.{Reply}
use Rattle.ivy_wire.specs.stated.Data.{Message}
use Rattle.ivy_wire.specs.stated.Posts.{parcel_to}
use Rattle.ivy_pagetable.specs.stated.Manager.{Ops}
use Rattle.ivy_alloc.specs.stated.Heap.{HeapState}
use Rattle.ivy_moves.specs.stated.FifoWorld.{FifoWorld, Delivers}
use Rattle.ivy_alloc.specs.declared.HeapCall.{HeapCall}
use Rattle.ivy_alloc.specs.declared.HeapRequest.TheVariants as heap_request
use Rattle.ivy_alloc.specs.stated.HeapCalls.{told_of, kept, request, answer_to, reply_in}
use Rattle.ivy_memory.proofs.serving.HeapCallsServed.{request_handled, answer_handled}
use Rattle.ivy_memory.proofs.serving.Pages.{is_of_pages}
use Rattle.ivy_host.specs.stated.Hosts.{Host, serving, host_rules}
use Rattle.ivy_host.specs.stated.Sound.{IsSoundHost}
use Rattle.ivy_host.proofs.Pages.{serving_by}
use Rattle.proof_worlds.specs.stated.HeapRequests.{heap_way, call_message, IsHeapRequestAt, resting, asking, answered, AreHeapRequests}
use Rattle.proof_worlds.proofs.refinement.HeapWays.{IsWithin, way_taken}

-- what a message of the heap does: node 0 serves the request, and its answer is the one under way
-- from then on; or the node that asked learns the reply
pub data HeapDelivery {S : Type 0} (ops : Ops S) (o : FifoWorld (Host S)) (source x : ℕ)
    (core : Host S) (m : Message) : Type 0 where
  serves : x ≡ 0 → source ≢ 0 → (asker : Host S) → slice_get o.cores source ≡ Some asker
      → (k : HeapCall) (number : ℕ) → asker.memory.side.heap_request ≡ Some (heap_request.Asked k number)
      → heap_way o source 0 ≡ m ∷ [] → heap_way o 0 source ≡ []
      → m ≡ call_message source number (request k) → (heap : HeapState)
      → core.memory.side.heap ≡ Some heap
      → serving ops core source m ≡ record {
        after = record core
            { memory = record core.memory { side = kept core.memory.side heap (told_of heap k) } };
        posted = parcel_to x source source number (answer_to k (told_of heap k).reply) ∷ [];
      } → HeapDelivery ops o source x core m
  learns : x ≢ 0 → source ≡ 0 → (k : HeapCall) (number : ℕ) (r : Reply)
      → core.memory.side.heap_request ≡ Some (heap_request.Asked k number) → heap_way o 0 x ≡ m ∷ []
      → reply_in k m.content ≡ Some r
      → serving ops core source m ≡ record {
        after = record core {
          memory =
              record core.memory
              { side = record core.memory.side { heap_request = Some (heap_request.Told r) } };
        };
        posted = [];
      } → HeapDelivery ops o source x core m

-- lists that begin with a message
empty_begins : (m : Message) (rest l : List Message) → l ≡ m ∷ rest → l ≡ [] → ⊥
empty_begins m rest l some none =
    none-some m (ap (λ (z : List Message). slice_get z 0) (sym none ∙ some))

one_begins : (m n : Message) (rest l : List Message) → l ≡ m ∷ rest → l ≡ n ∷ [] → m ≡ n
one_begins m n rest l some one =
    same_Some m n (ap (λ (z : List Message). slice_get z 0) (sym some ∙ one))

module _ {S : Type 0} (ops : Ops S) (c : Config) (o : FifoWorld (Host S)) (heap_requests : AreHeapRequests o)
    (source x : ℕ) (core : Host S) (there : slice_get o.cores x ≡ Some core)
    (good : IsSoundHost ops c x core)
    (below : source < length o.cores) (apart : source ≢ x) (m : Message) (rest : List Message)
    (first : heap_way o source x ≡ m ∷ rest) where
  -- at node 0
  served_by : x ≡ 0 → (asker : Host S) → slice_get o.cores source ≡ Some asker
      → (k : HeapCall) (number : ℕ) → asker.memory.side.heap_request ≡ Some (heap_request.Asked k number)
      → heap_way o source 0 ≡ call_message source number (request k) ∷ [] → heap_way o 0 source ≡ []
      → (heap : Option HeapState) → core.memory.side.heap ≡ heap
      → HeapDelivery ops o source x core m
  served_by home asker at k number asks on_way none None is =
      absurd (good.memory.side.away is (good.me ∙ home))
  served_by home asker at k number asks on_way none (Some heap) is =
      let same : m ≡ call_message source number (request k) =
      one_begins m _ rest (heap_way o source 0)
      (subst (λ z. heap_way o source z ≡ m ∷ rest) home first) on_way in
      serves home (λ e. apart (e ∙ sym home)) asker at k number asks
      (on_way ∙ ap (λ z. z ∷ []) (sym same)) none same heap is
      (ap (serving ops core source) same
      ∙ serving_by ops core source (call_message source number (request k)) _
      (request_handled ops core.memory source number k heap is)
      ∙ ap (λ i. record {
        after = record core
            { memory = record core.memory { side = kept core.memory.side heap (told_of heap k) } };
        posted = parcel_to i source source number (answer_to k (told_of heap k).reply) ∷ [];
      }) good.me)

  served_at : x ≡ 0 → (asker : Host S) → slice_get o.cores source ≡ Some asker
      → IsHeapRequestAt source asker.memory.side.heap_request (heap_way o source 0) (heap_way o 0 source)
      → HeapDelivery ops o source x core m
  served_at home asker at (resting rests none back) =
      absurd (empty_begins m rest (heap_way o source 0)
      (subst (λ z. heap_way o source z ≡ m ∷ rest) home first) none)
  served_at home asker at (asking k number asks on_way none) =
      served_by home asker at k number asks on_way none core.memory.side.heap refl
  served_at home asker at (answered k number body r asks none back tells can) =
      absurd (empty_begins m rest (heap_way o source 0)
      (subst (λ z. heap_way o source z ≡ m ∷ rest) home first) none)

  -- at the node that asked
  learned-at : x ≢ 0 → source ≡ 0
      → IsHeapRequestAt x core.memory.side.heap_request (heap_way o x 0) (heap_way o 0 x)
      → HeapDelivery ops o source x core m
  learned-at away home (resting rests none back) =
      absurd (empty_begins m rest (heap_way o 0 x)
      (subst (λ z. heap_way o z x ≡ m ∷ rest) home first) back)
  learned-at away home (asking k number asks on_way none) =
      absurd (empty_begins m rest (heap_way o 0 x)
      (subst (λ z. heap_way o z x ≡ m ∷ rest) home first) none)
  learned-at away home (answered k number body r asks none back tells can) =
      let same : m ≡ call_message x number body =
      one_begins m _ rest (heap_way o 0 x) (subst (λ z. heap_way o z x ≡ m ∷ rest) home first)
      back in
      let replies : reply_in k m.content ≡ Some r =
      ap (λ (z : Message). reply_in k z.content) same ∙ tells in
      learns away home k number r asks (back ∙ ap (λ z. z ∷ []) (sym same)) replies
      (ap (λ z. serving ops core z m) home
      ∙ serving_by ops core 0 m _
      (answer_handled ops core.memory m k r (ap (λ (z : Message). z.origin) same ∙ sym good.me)
      (asks ∙ ap (λ (z : Message). Some (heap_request.Asked k z.call)) (sym same)) replies))

  fits-rule : HeapDelivery ops o source x core m
  fits-rule = elim (cases_eq x 0) [
    | inl home ↦ elim (slice_get_cases o.cores source).1 [
      | inl at ↦
          served_at home at.0 at.2 (heap_requests.each source at.0 (λ e. apart (e ∙ sym home)) at.2)
      | inr past ↦ absurd (let beyond = past.0 in omega (arith, below, beyond))
    ]
    | inr away ↦ elim (cases_eq source 0) [
      | inl home ↦ learned-at away home (heap_requests.each x core away there)
      | inr other ↦
          absurd (empty_begins m rest (heap_way o source x) first
          (heap_requests.apart source x other away))
    ]
  ]

pub heap_delivery : {S : Type 0} (ops : Ops S) (c : Config) (o o' : FifoWorld (Host S)) → IsWithin o
    → AreHeapRequests o → (source x : ℕ) (t : Delivers (host_rules ops) o source x o')
    → IsSoundHost ops c x t.core
    → source < length o.cores → source ≢ x → is_of_pages t.message.content ≡ false
    → HeapDelivery ops o source x t.core t.message
heap_delivery ops c o o' within heap_requests source x t good below apart heap =
    let way = way_taken (host_rules ops) o o' within source x t heap in
    fits-rule ops c o heap_requests source x t.core t.there good below apart t.message way.0 way.1
