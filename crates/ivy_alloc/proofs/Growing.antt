-- The heap wants memory for an Alloc only where it gives a block.
use Rattle.std.proofs.Common.{◌≡◌, ◌≢◌, ℕ, ◌<◌, inl, inr, [], Result, Err, MatchBool, sym, ap, ◌∙◌, subst, arith}
use Rattle.std.proofs.lemmas.Bool.{ne_eqb}
use Rattle.ivy_model.specs.declared.Config.{Config}
use Rattle.ivy_model.specs.declared.Call.TheVariants as call
use Rattle.ivy_model.specs.declared.Fault.{Fault}
use Rattle.ivy_model.specs.declared.Fault.TheVariants as fault
use Rattle.ivy_model.specs.declared.Reply.{Reply}
use Rattle.ivy_model.specs.declared.Reply.TheVariants.{Value, Done, Refused}
use Rattle.ivy_model.specs.stated.Memory as model
use Rattle.ivy_model.specs.stated.Serves.{Serves, Refuses, Allocates, rounded}
use Rattle.ivy_alloc.specs.stated.Heap.{HeapState}
use Rattle.ivy_alloc.specs.Heap.{HasNoRoom}
use Rattle.ivy_alloc.specs.Laws.{IsAllocReply, with_blocks}
use Rattle.ivy_alloc.specs.stated.HeapAnswers.{alloc_told}
use Rattle.ivy_alloc.proofs.Answered.{alloc_served, has_replies}
use Rattle.ivy_alloc.specs.declared.heap_side.HeapCall.TheVariants.{Alloc}
use Rattle.ivy_alloc.specs.declared.answer.CallProgress.TheVariants.{Given}
use Rattle.ivy_alloc.specs.HeapCalls.{IsAddress}
use Rattle.ivy_alloc.specs.stated.HeapCalls.{told_of}

-- the heap wants memory only where there is room for the block: it has not refused it with 8 or 9
address_or : (c : Config) (size : ℕ) (y : Reply) → IsAllocReply c size y → (size ≢ 0)
    → (y ≢ Refused 9) → IsAddress (Given y)
address_or c size (Value addr) is some room = tt
address_or c size Done is some room = absurd is
address_or c size (Refused code) is some room =
    elim is [ inl x ↦ absurd (some x.0) | inr x ↦ absurd (room (ap Refused x.1)) ]

no_room : (h : HeapState) (size : ℕ) → (size ≢ 0) → (told_of h (Alloc size)).reply ≡ Refused 9
    → HasNoRoom h size
no_room h size some is =
    let m : model.Memory = record { bytes = []; counts = []; blocks = h.blocks } in
    let heap_request_served : Serves h.config m (call.Alloc size) (Refused 9)
    (with_blocks m (alloc_told h.config h.blocks size).blocks)
    = subst (λ r. Serves h.config m (call.Alloc size) r
    (with_blocks m (alloc_told h.config h.blocks size).blocks)) is
    (alloc_served h.config m size) in
    (subst (λ b. MatchBool b
    (Refuses m 8 (Refused 9) (with_blocks m (alloc_told h.config h.blocks size).blocks))
    (Allocates h.config m (rounded size) (Refused 9)
    (with_blocks m (alloc_told h.config h.blocks size).blocks)))
    (ne_eqb size 0 some) heap_request_served).1

pub alloc_grows : (h : HeapState) (size : ℕ) (r : Result ℕ Fault) → r ≡ Err fault.Memory
    → (size ≡ 0 → r ≡ Err fault.ZeroSize) → ((0 < size) × HasNoRoom h size → r ≡ Err fault.NoRoom)
    → IsAddress (Given (told_of h (Alloc size)).reply)
alloc_grows h size r wants empty full =
    let some : size ≢ 0 =
    λ none. (let e : Err fault.Memory ≡ Err fault.ZeroSize = sym wants ∙ empty none in
    absurd cc) in
    address_or h.config size (told_of h (Alloc size)).reply (has_replies h.config h.blocks size).0
    some
    (λ is. (let more : 0 < size = omega (arith, some) in
    let e : Err fault.Memory ≡ Err fault.NoRoom =
    sym wants ∙ full (more, no_room h size some is) in absurd cc))
