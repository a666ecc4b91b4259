-- The calls of the heap in a FIFO world: the messages of the heap that are under way, and what
-- they tell of the calls that node 0 was asked for.
use Rattle.std.specs.Prelude.{◌≡◌, ◌≢◌, ◌⊎◌, ◌<◌, ◌+◌, ℕ, length, not, List, [], ◌∷◌, drop, filter, slice_get}
use Rattle.std.specs.Prelude.{Option, Some, None}
use Rattle.ivy_model.specs.declared.Fault.TheVariants.{ZeroSize, NoRoom}
use Rattle.ivy_model.specs.declared.Reply.{Reply}
use Rattle.ivy_model.specs.declared.Reply.TheVariants.{Value, Done, Refused}
use Rattle.ivy_model.specs.stated.Numbers.{fault_number}
use Rattle.ivy_wire.specs.stated.Data.{Content, Message}
use Rattle.ivy_moves.specs.stated.FifoWorld.{FifoWorld}
use Rattle.ivy_alloc.specs.stated.Laws.{IsFreeReply}
use Rattle.ivy_alloc.specs.declared.HeapCall.{HeapCall}
use Rattle.ivy_alloc.specs.declared.HeapCall.TheVariants.{Alloc, Free}
use Rattle.ivy_alloc.specs.declared.HeapRequest.{HeapRequest}
use Rattle.ivy_alloc.specs.declared.HeapRequest.TheVariants as heap_request
use Rattle.ivy_alloc.specs.stated.HeapCalls.{is_of_pages, request, reply_in}
use Rattle.ivy_memory.specs.stated.Sound.{IsInProgress}
use Rattle.ivy_host.specs.stated.Hosts.{Host}

-- the messages of the heap among these, in their order
abbrev pub about_heap : List Message → List Message
about_heap ms = filter (λ m. not (is_of_pages m.content)) ms

-- those under way from one node to another
abbrev pub heap_way : {C : Type 0} → FifoWorld C → ℕ → ℕ → List Message
heap_way o i j = about_heap (drop (o.delivered i j) (o.posted i j))

-- a message of the call of this number of a node
abbrev pub call_message : ℕ → ℕ → Content → Message
call_message node number body = record { origin = node; call = number; content = body }

-- node 0 owes no answer
abbrev pub IsAtRest : Option HeapRequest → Type 0
IsAtRest None = Unit {0}
IsAtRest (Some (heap_request.Asked k number)) = ⊥
IsAtRest (Some (heap_request.Told r)) = Unit {0}

-- a reply that a call of the heap can have: of some bytes an address, or 9; of none 8; of a block's
-- end done, or 10
abbrev pub CanHave : HeapCall → Reply → Type 0
CanHave (Alloc size) (Value addr) = 0 < size
CanHave (Alloc size) Done = ⊥
CanHave (Alloc size) (Refused code) =
    ((size ≡ 0) × (code ≡ fault_number ZeroSize)) ⊎ ((0 < size) × (code ≡ fault_number NoRoom))
CanHave (Free addr) r = IsFreeReply r

-- The messages of the heap under way from a node to node 0 and back, by the call that node 0 was
-- asked for: none where no answer is owed; else the request alone, or the answer alone, which tells
-- a reply that the call can have.
pub data IsHeapRequestAt (node : ℕ) (e : Option HeapRequest) (there back : List Message) : Type 0 where
  resting : IsAtRest e → there ≡ [] → back ≡ [] → IsHeapRequestAt node e there back
  asking : (k : HeapCall) (number : ℕ) → e ≡ Some (heap_request.Asked k number)
      → there ≡ call_message node number (request k) ∷ [] → back ≡ []
      → IsHeapRequestAt node e there back
  answered : (k : HeapCall) (number : ℕ) (body : Content) (r : Reply)
      → e ≡ Some (heap_request.Asked k number) → there ≡ []
      → back ≡ call_message node number body ∷ [] → reply_in k body ≡ Some r → CanHave k r
      → IsHeapRequestAt node e there back

-- messages of the heap go between node 0 and the others alone, by the calls that it was asked for
pub record AreHeapRequests {S : Type 0} (o : FifoWorld (Host S)) : Type 0 where
  pub apart : (i j : ℕ) → i ≢ 0 → j ≢ 0 → heap_way o i j ≡ []
  pub home : heap_way o 0 0 ≡ []
  pub each : (i : ℕ) (h : Host S) → i ≢ 0 → slice_get o.cores i ≡ Some h
      → IsHeapRequestAt i h.memory.side.heap_request (heap_way o i 0) (heap_way o 0 i)

-- the reply of the call that node 0 was asked for: told, or in the message on its way back
abbrev pub replied_by : Option HeapRequest → List Message → Option Reply
replied_by (Some (heap_request.Asked k number)) (m ∷ ms) = reply_in k m.content
replied_by (Some (heap_request.Asked k number)) [] = None
replied_by (Some (heap_request.Told r)) ms = Some r
replied_by None ms = None

-- node 0 was asked for this call under this number, or has answered
abbrev pub IsHeapRequestFor : HeapCall → ℕ → Option HeapRequest → Type 0
IsHeapRequestFor k number None = ⊥
IsHeapRequestFor k number (Some (heap_request.Asked j n)) = (j ≡ k) × (n ≡ number)
IsHeapRequestFor k number (Some (heap_request.Told r)) = Unit {0}

-- for each call of the heap that is in progress at a node, node 0 was asked, under the number of
-- the call, or has answered; node 0 asks for none
pub record HaveHeapRequests {S : Type 0} (o : FifoWorld (Host S)) : Type 0 where
  pub each : (i : ℕ) (h : Host S) (k : HeapCall) → slice_get o.cores i ≡ Some h
      → IsInProgress h.memory.coherence.config h.memory.asked k
      → IsHeapRequestFor k (length h.history + 1) h.memory.side.heap_request
  pub none : (h : Host S) → slice_get o.cores 0 ≡ Some h → h.memory.side.heap_request ≡ None
