-- How node 0 is asked and how it answers can be spelled.
use Rattle.std.proofs.Common.{◌≡◌, ℕ, ◌^◌, ◌<◌, inl, inr, refl, subst, arith}
use Rattle.ivy_model.specs.declared.Config.{Config}
use Rattle.ivy_model.specs.declared.Reply.{Reply}
use Rattle.ivy_model.specs.declared.Reply.TheVariants.{Value, Done, Refused}
use Rattle.ivy_model.specs.stated.Config.{IsConfig}
use Rattle.ivy_wire.specs.stated.Spelling.{FitsContent}
use Rattle.ivy_alloc.specs.stated.Heap.{HeapState}
use Rattle.ivy_alloc.specs.Laws.{IsAllocReply}
use Rattle.ivy_alloc.specs.stated.Laws.{IsFreeReply}
use Rattle.ivy_alloc.proofs.Answered.{has_replies}
use Rattle.ivy_alloc.proofs.HeapBounds.{heap_small}
use Rattle.ivy_alloc.specs.declared.heap_side.HeapCall.{HeapCall}
use Rattle.ivy_alloc.specs.declared.heap_side.HeapCall.TheVariants.{Alloc, Free}
use Rattle.ivy_alloc.specs.stated.HeapCalls.{told_of, request, number_in, answer_to}

-- an answer of the heap can be spelled
alloc_fits : (c : Config) (size : ℕ) (r : Reply) → IsConfig c → IsAllocReply c size r
    → FitsContent c (answer_to (Alloc size) r)
alloc_fits c size (Value addr) limits is =
    let small = heap_small c limits in let below = is.2 in inl (refl, omega (arith, small, below))
alloc_fits c size Done limits is = absurd is
alloc_fits c size (Refused code) limits is =
    elim is [ inl x ↦ inr (inl x.1, refl) | inr x ↦ inr (inr x.1, refl) ]

free_fits : (c : Config) (addr : ℕ) (r : Reply) → IsFreeReply r
    → FitsContent c (answer_to (Free addr) r)
free_fits c addr (Value v) is = absurd is
free_fits c addr Done is = inl refl
free_fits c addr (Refused code) is = inr is

pub answer_fits : (c : Config) (h : HeapState) (k : HeapCall) → IsConfig c → h.config ≡ c
    → FitsContent c (answer_to k (told_of h k).reply)
answer_fits c h (Alloc size) limits same =
    alloc_fits c size _ limits
    (subst (λ x. IsAllocReply x size (told_of h (Alloc size)).reply) same
    (has_replies h.config h.blocks size).0)
answer_fits c h (Free addr) limits same = free_fits c addr _ (has_replies h.config h.blocks addr).1

pub request_fits : (c : Config) (k : HeapCall) → number_in k < 2 ^ 64 → FitsContent c (request k)
request_fits c (Alloc size) small = small
request_fits c (Free addr) small = small
