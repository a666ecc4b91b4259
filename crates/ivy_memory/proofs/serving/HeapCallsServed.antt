-- A call of the heap that node 0 is asked for: what the memory of node 0 does with the request, and
-- that of the node that asked with the answer.
use Rattle.std.proofs.Common.{◌≡◌, ℕ, Some, ap}
use Rattle.ivy_model.specs.declared.Reply.{Reply}
use Rattle.ivy_wire.specs.stated.Data.{Message}
use Rattle.ivy_pagetable.specs.stated.Manager.{Ops}
use Rattle.ivy_alloc.specs.stated.Heap.{HeapState}
use Rattle.ivy_alloc.specs.declared.HeapCall.{HeapCall}
use Rattle.ivy_alloc.specs.declared.HeapRequest.TheVariants as heap_request
use Rattle.ivy_alloc.specs.stated.HeapCalls.{request, reply_in, served_at, learned}
use Rattle.ivy_alloc.proofs.HeapSides.{heap_served, heap_learned}
use Rattle.ivy_memory.specs.stated.Memories.{NodeMemory, by_side, memory_handled_as, memory_handled}

module _ {S : Type 0} (ops : Ops S) (m : NodeMemory S) where
  pub request_handled : (from number : ℕ) (k : HeapCall) (h : HeapState) → m.side.heap ≡ Some h
      → memory_handled ops m from (record { origin = from; call = number; content = request k })
      ≡ by_side m (served_at m.coherence.me m.side from number k (Some h))
  request_handled from number k h there =
      ap (memory_handled_as ops m from
      (record { origin = from; call = number; content = request k }))
      (heap_served m.coherence.me m.side from number k h there)

  pub answer_handled : (message : Message) (k : HeapCall) (r : Reply)
      → message.origin ≡ m.coherence.me → m.side.heap_request ≡ Some (heap_request.Asked k message.call)
      → reply_in k message.content ≡ Some r
      → memory_handled ops m 0 message ≡ by_side m (learned m.side (Some r))
  answer_handled message k r mine asks is =
      ap (memory_handled_as ops m 0 message)
      (heap_learned m.coherence.me m.side message k r mine asks is)
