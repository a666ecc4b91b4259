-- In a sound world each call of the heap in progress has its request of the heap.
use Rattle.std.proofs.Common.{◌≡◌, ℕ, Bool, Option, Some, None, refl, sym, ap, ◌∙◌, length, ◌+◌}
use Rattle.std.proofs.lemmas.Option.{same_Some, none-some}
use Rattle.ivy_model.specs.declared.Config.{Config}
use Rattle.ivy_model.specs.declared.Call.{Call}
use Rattle.ivy_pagetable.specs.stated.Manager.{Ops}
use Rattle.ivy_moves.specs.stated.FifoWorld.{FifoWorld}
use Rattle.ivy_memory.specs.declared.Asked.TheVariants as kinds
use Rattle.ivy_alloc.specs.declared.HeapCall.{HeapCall}
use Rattle.ivy_alloc.specs.declared.HeapRequest.{HeapRequest}
use Rattle.ivy_alloc.specs.declared.HeapRequest.TheVariants as heap_request
use Rattle.ivy_memory.specs.stated.Asking.{asked_of}
use Rattle.ivy_memory.specs.stated.Sound.{IsHeapRequestOf, IsInProgress}
use Rattle.ivy_host.specs.stated.Hosts.{Host}
use Rattle.ivy_host.specs.stated.Sound.{IsSoundHost}
use Rattle.proof_worlds.specs.stated.HeapRequests.{IsHeapRequestFor, HaveHeapRequests}
use Rattle.proof_worlds.proofs.refinement.LiftedWorlds.{IsSoundWorldBy}

-- one call is in progress
one_call : (c : Config) (a : Option Call) (j k : HeapCall) → IsInProgress c a j → IsInProgress c a k
    → j ≡ k
one_call c a j k x y =
    let same : x.call ≡ y.call = same_Some x.call y.call (sym x.asked ∙ y.asked) in
    let e : kinds.Heap j ≡ kinds.Heap k = sym x.of ∙ ap (asked_of c) same ∙ y.of in
    let i : j ≡ k = cc in i

module _ {S : Type 0} {ops : Ops S} {c : Config} {x : ℕ} (h : Host S) (good : IsSoundHost ops c x h)
    (k : HeapCall) (in_progress : IsInProgress h.memory.coherence.config h.memory.asked k) where
  heap_request_for : (e : Option HeapRequest) → h.memory.side.heap_request ≡ e
      → IsHeapRequestOf h.memory.coherence.config h.memory.asked e
      → IsHeapRequestFor k (length h.history + 1) e
  heap_request_for None is of =
      let some = good.memory.side.owed k in_progress in none-some some.0 (sym is ∙ some.1)
  heap_request_for (Some (heap_request.Asked j number)) is of = (
    one_call h.memory.coherence.config h.memory.asked j k of in_progress,
    good.memory.under j number is ∙ good.numbered in_progress.call in_progress.asked,
  )
  heap_request_for (Some (heap_request.Told r)) is of = tt

pub have_heap_requests : {S : Type 0} {sends : Bool} {ops : Ops S} {c : Config}
    (o : FifoWorld (Host S)) → IsSoundWorldBy sends ops c o → HaveHeapRequests o
have_heap_requests o w = record {
  each = λ i h k there in_progress. heap_request_for h (w.sound i h there) k in_progress
      h.memory.side.heap_request refl (w.sound i h there).memory.side.heap_request;
  none = λ h there. (w.sound 0 h there).memory.side.none (w.sound 0 h there).me;
}
