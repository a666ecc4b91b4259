-- A call of the heap that node 0 is asked for: what the side of node 0 does with the request, and
-- the side of the node that asked with the answer.
use Rattle.std.proofs.Common.{◌≡◌, ℕ, inl, inr, false, Some, refl, sym, ap, ◌∙◌, subst, eq-eqb, if◌then◌else◌}
use Rattle.std.proofs.lemmas.Option.{none-some}
use Rattle.ivy_model.specs.declared.Config.{Config}
use Rattle.ivy_model.specs.declared.Reply.{Reply}
use Rattle.ivy_model.specs.declared.Reply.TheVariants.{Value, Done, Refused}
use Rattle.ivy_wire.specs.declared.Content.TheVariants as content
use Rattle.ivy_wire.specs.stated.Data.{Content, Message}
use Rattle.ivy_alloc.specs.stated.Heap.{HeapState}
use Rattle.ivy_alloc.specs.Laws.{IsAllocReply}
use Rattle.ivy_alloc.specs.stated.Laws.{IsFreeReply}
use Rattle.ivy_alloc.proofs.Answered.{has_replies}
use Rattle.ivy_alloc.specs.declared.heap_side.HeapCall.{HeapCall}
use Rattle.ivy_alloc.specs.declared.heap_side.HeapCall.TheVariants.{Alloc, Free}
use Rattle.ivy_alloc.specs.declared.heap_side.HeapRequest.TheVariants as heap_request
use Rattle.ivy_alloc.specs.stated.HeapCalls.{HeapSide, is_of_pages, told_of, request, answer_to, block_told, end_told, reply_in, misfit, served_at, heap_request_served, learned, learns, told_answer, heap_told_as}
use Rattle.ivy_alloc.specs.stated.HeapCalls.{heap_told}

-- neither the request nor the answer is about a page
pub request_heap : (k : HeapCall) → is_of_pages (request k) ≡ false
request_heap (Alloc size) = refl
request_heap (Free addr) = refl

pub answer_heap : (k : HeapCall) (r : Reply) → is_of_pages (answer_to k r) ≡ false
answer_heap (Alloc size) (Value addr) = refl
answer_heap (Alloc size) Done = refl
answer_heap (Alloc size) (Refused code) = refl
answer_heap (Free addr) (Value v) = refl
answer_heap (Free addr) Done = refl
answer_heap (Free addr) (Refused code) = refl

-- the answer tells the reply of the call
alloc-replied : (c : Config) (size : ℕ) (r : Reply) → IsAllocReply c size r
    → reply_in (Alloc size) (answer_to (Alloc size) r) ≡ Some r
alloc-replied c size (Value addr) is = refl
alloc-replied c size Done is = absurd is
alloc-replied c size (Refused code) is = elim is [
  | inl x ↦ subst (λ z. Some (block_told z 0) ≡ Some (Refused z)) (sym x.1) refl
  | inr x ↦ subst (λ z. Some (block_told z 0) ≡ Some (Refused z)) (sym x.1) refl
]

free-replied : (addr : ℕ) (r : Reply) → IsFreeReply r
    → reply_in (Free addr) (answer_to (Free addr) r) ≡ Some r
free-replied addr (Value v) is = absurd is
free-replied addr Done is = refl
free-replied addr (Refused code) is =
    subst (λ z. Some (end_told z) ≡ Some (Refused z)) (sym is) refl

pub replied : (h : HeapState) (k : HeapCall)
    → reply_in k (answer_to k (told_of h k).reply) ≡ Some (told_of h k).reply
replied h (Alloc size) =
    alloc-replied h.config size (told_of h (Alloc size)).reply
    (has_replies h.config h.blocks size).0
replied h (Free addr) =
    free-replied addr (told_of h (Free addr)).reply (has_replies h.config h.blocks addr).1

-- a message that tells the reply of a call is one of the answers
alloc-answer : (me : ℕ) (s : HeapSide) (from : ℕ) (m : Message) (size : ℕ) (body : Content)
    (r : Reply) → reply_in (Alloc size) body ≡ Some r
    → heap_told_as me s from m body ≡ told_answer me s from m
alloc-answer me s from m size (content.AllocReq n) r is = absurd (none-some r is)
alloc-answer me s from m size (content.AllocRep code addr) r is = refl
alloc-answer me s from m size (content.FreeReq addr) r is = absurd (none-some r is)
alloc-answer me s from m size (content.FreeRep code) r is = refl
alloc-answer me s from m size (content.ReadReq page) r is = absurd (none-some r is)
alloc-answer me s from m size (content.WriteReq page) r is = absurd (none-some r is)
alloc-answer me s from m size (content.ReadRep page bytes) r is = absurd (none-some r is)
alloc-answer me s from m size (content.WriteRep page copies bytes) r is = absurd (none-some r is)
alloc-answer me s from m size (content.Inval page) r is = absurd (none-some r is)
alloc-answer me s from m size (content.InvalAck page) r is = absurd (none-some r is)

free-answer : (me : ℕ) (s : HeapSide) (from : ℕ) (m : Message) (at : ℕ) (body : Content) (r : Reply)
    → reply_in (Free at) body ≡ Some r → heap_told_as me s from m body ≡ told_answer me s from m
free-answer me s from m at (content.AllocReq n) r is = absurd (none-some r is)
free-answer me s from m at (content.AllocRep code addr) r is = refl
free-answer me s from m at (content.FreeReq addr) r is = absurd (none-some r is)
free-answer me s from m at (content.FreeRep code) r is = refl
free-answer me s from m at (content.ReadReq page) r is = absurd (none-some r is)
free-answer me s from m at (content.WriteReq page) r is = absurd (none-some r is)
free-answer me s from m at (content.ReadRep page bytes) r is = absurd (none-some r is)
free-answer me s from m at (content.WriteRep page copies bytes) r is = absurd (none-some r is)
free-answer me s from m at (content.Inval page) r is = absurd (none-some r is)
free-answer me s from m at (content.InvalAck page) r is = absurd (none-some r is)

answer-told : (me : ℕ) (s : HeapSide) (from : ℕ) (m : Message) (k : HeapCall) (r : Reply)
    → reply_in k m.content ≡ Some r → heap_told_as me s from m m.content ≡ told_answer me s from m
answer-told me s from m (Alloc size) r is = alloc-answer me s from m size m.content r is
answer-told me s from m (Free addr) r is = free-answer me s from m addr m.content r is

request-told : (me : ℕ) (s : HeapSide) (from : ℕ) (m : Message) (k : HeapCall)
    → heap_told_as me s from m (request k) ≡ heap_request_served me s from m k
request-told me s from m (Alloc size) = refl
request-told me s from m (Free addr) = refl

-- node 0 serves the request of another node
pub heap_served : (me : ℕ) (s : HeapSide) (from number : ℕ) (k : HeapCall) (h : HeapState)
    → s.heap ≡ Some h
    → heap_told me s from (record { origin = from; call = number; content = request k })
    ≡ served_at me s from number k (Some h)
unfolding heap_told
heap_served me s from number k h there =
    request-told me s from (record { origin = from; call = number; content = request k }) k
    ∙ ap (λ b. if b then served_at me s from number k s.heap else misfit s) (eq-eqb from from refl)
    ∙ ap (served_at me s from number k) there

-- the node that asked learns the reply
pub heap_learned : (me : ℕ) (s : HeapSide) (m : Message) (k : HeapCall) (r : Reply) → m.origin ≡ me
    → s.heap_request ≡ Some (heap_request.Asked k m.call) → reply_in k m.content ≡ Some r
    → heap_told me s 0 m ≡ learned s (Some r)
unfolding heap_told
heap_learned me s m k r mine asks is =
    answer-told me s 0 m k r is
    ∙ ap (λ b. if b then learns s m.call m.content s.heap_request else misfit s) (eq-eqb m.origin me mine)
    ∙ ap (learns s m.call m.content) asks
    ∙ ap (λ b. if b then learned s (reply_in k m.content) else misfit s) (eq-eqb m.call m.call refl)
    ∙ ap (learned s) is
