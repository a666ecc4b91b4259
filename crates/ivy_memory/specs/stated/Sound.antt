-- What holds of a node's memory, whatever comes to it.
use Rattle.std.specs.Prelude.{◌≡◌, ◌≢◌, ◌≤◌, ◌<◌, ◌+◌, ◌^◌, ℕ, [], length, All, Option, None, Some}
use Rattle.ivy_model.specs.declared.Config.{Config}
use Rattle.ivy_model.specs.declared.Call.{Call}
use Rattle.ivy_model.specs.stated.Legal.{HasWidth}
use Rattle.ivy_pagetable.specs.declared.Out.{Out}
use Rattle.ivy_pagetable.specs.declared.Word.{Word}
use Rattle.ivy_pagetable.specs.stated.Manager.{Ops}
use Rattle.ivy_coherence.specs.stated.Sound.{IsSound}
use Rattle.ivy_alloc.specs.stated.Heap.{HeapState}
use Rattle.ivy_memory.specs.declared.memory.Asked.TheVariants as kinds
use Rattle.ivy_alloc.specs.declared.HeapCall.{HeapCall}
use Rattle.ivy_alloc.specs.declared.HeapRequest.{HeapRequest}
use Rattle.ivy_alloc.specs.declared.HeapRequest.TheVariants as heap_request
use Rattle.ivy_memory.specs.stated.Asking.{asked_of}
use Rattle.ivy_alloc.specs.stated.HeapCalls.{HeapSide}
use Rattle.ivy_memory.specs.stated.Memories.{NodeMemory}

-- the call in progress is this one of the heap
pub record IsInProgress (c : Config) (in_progress : Option Call) (k : HeapCall) : Type 0 where
  pub call : Call
  pub asked : in_progress ≡ Some call
  pub of : asked_of c call ≡ kinds.Heap k

-- node 0 was asked for the call in progress, if for any
abbrev pub IsHeapRequestOf : Config → Option Call → Option HeapRequest → Type 0
IsHeapRequestOf c in_progress None = Unit {0}
IsHeapRequestOf c in_progress (Some (heap_request.Asked k number)) = IsInProgress c in_progress k
IsHeapRequestOf c in_progress (Some (heap_request.Told r)) = (k : HeapCall) × IsInProgress c in_progress k

-- the heap is at node 0, which asks nobody; any other node asks that one, for each call of the heap
-- in progress
pub record IsSoundSide (c : Config) (me : ℕ) (in_progress : Option Call) (s : HeapSide) : Type 0
  where
    pub away : s.heap ≡ None → me ≢ 0
    pub home : (h : HeapState) → s.heap ≡ Some h → (h.config ≡ c) × (me ≡ 0)
    pub heap_request : IsHeapRequestOf c in_progress s.heap_request
    pub owed : (k : HeapCall) → IsInProgress c in_progress k → (e : HeapRequest) × (s.heap_request ≡ Some e)
    pub none : me ≡ 0 → s.heap_request ≡ None

-- the call is a word of a page
abbrev pub IsWordOfPage : Config → Call → Type 0
IsWordOfPage c call = (page : ℕ) × (w : Word) × (asked_of c call ≡ kinds.Word page w)

-- Without a call in progress no word waits, and none was carried out; nor does a word wait beside
-- one carried out, or beside a call of the heap that node 0 was asked for. The call in progress has
-- a width that the memory knows, and a number that a message can carry; so have those that are in
-- progress after it, and each of them is a word of a page.
pub record IsSoundMemory {S : Type 0} (ops : Ops S) (m : NodeMemory S) : Type 0 where
  pub coherent : IsSound ops m.coherence
  pub done : m.asked ≡ None → m.coherence.done ≡ None
  pub locked : m.asked ≡ None → m.coherence.locked ≡ None
  pub answered : (o : Out) → m.coherence.done ≡ Some o → m.coherence.locked ≡ None
  pub width : (call : Call) → m.asked ≡ Some call → HasWidth call
  pub widths : All HasWidth m.along
  pub of_pages : All (IsWordOfPage m.coherence.config) m.along
  pub numbered : (call : Call) → m.asked ≡ Some call → 1 ≤ m.number
  pub small : m.number + length m.along < 2 ^ 64
  pub alone : m.asked ≡ None → m.along ≡ []
  pub side : IsSoundSide m.coherence.config m.coherence.me m.asked m.side
  -- node 0 was asked under the number of the call
  pub under : (k : HeapCall) (number : ℕ) → m.side.heap_request ≡ Some (heap_request.Asked k number)
      → number ≡ m.number
  pub apart : (e : HeapRequest) → m.side.heap_request ≡ Some e
      → (m.coherence.locked ≡ None) × (m.coherence.done ≡ None)
