-- What a message comes to at a node's side of the calls of the heap, row by row.
use Rattle.std.proofs.Common.{◌≡◌, ℕ, Bool, true, false, ◌&&◌, ◌==◌, [], Option, Some, None, refl, if◌then◌else◌}
use Rattle.ivy_model.specs.declared.Reply.{Reply}
use Rattle.ivy_wire.specs.declared.Content.TheVariants as content
use Rattle.ivy_wire.specs.stated.Data.{Content, Message}
use Rattle.ivy_alloc.specs.stated.Heap.{HeapState}
use Rattle.ivy_alloc.specs.declared.heap_side.HeapCall.{HeapCall}
use Rattle.ivy_alloc.specs.declared.heap_side.HeapCall.TheVariants.{Alloc, Free}
use Rattle.ivy_alloc.specs.declared.heap_side.HeapRequest.{HeapRequest}
use Rattle.ivy_alloc.specs.declared.heap_side.HeapRequest.TheVariants as heap_request
use Rattle.ivy_alloc.specs.stated.HeapCalls.{HeapSide, HeapTold, misfit, served_at, heap_request_served, learned, learns, told_answer, heap_told_as, heap_told}

pub either : {A : Type 0} (P : A → Type 0) (b : Bool) (x y : A) → P x → P y → P (if b then x else y)
either P true x y h k = h
either P false x y h k = k

-- A message to the side of a node fits no rule, or is a call of another node that the heap is there
-- for, or is the answer to the call that node 0 was asked for.
pub record HeapRows (me : ℕ) (s : HeapSide) (from : ℕ) (m : Message) (P : HeapTold → Type 0) : Type
    0 where
  pub breach : P (misfit s)
  pub serves : (k : HeapCall) (h : HeapState) → s.heap ≡ Some h
      → P (served_at me s from m.call k (Some h))
  pub told : (k : HeapCall) (number : ℕ) (r : Reply) → s.heap_request ≡ Some (heap_request.Asked k number)
      → P (learned s (Some r))

module _ {me : ℕ} {s : HeapSide} {from : ℕ} {m : Message} {P : HeapTold → Type 0}
    (rows : HeapRows me s from m P) where
  served_at-row : (k : HeapCall) (o : Option HeapState) → s.heap ≡ o
      → P (served_at me s from m.call k o)
  served_at-row k None is = rows.breach
  served_at-row k (Some h) is = rows.serves k h is

  served-row : (k : HeapCall) → P (heap_request_served me s from m k)
  served-row k =
      either P (m.origin == from) (served_at me s from m.call k s.heap) (misfit s)
      (served_at-row k s.heap refl) rows.breach

  learned-row : (k : HeapCall) (number : ℕ) (r : Option Reply)
      → s.heap_request ≡ Some (heap_request.Asked k number) → P (learned s r)
  learned-row k number None is = rows.breach
  learned-row k number (Some r) is = rows.told k number r is

  learns-row : (body : Content) (e : Option HeapRequest) → s.heap_request ≡ e → P (learns s m.call body e)
  learns-row body (Some (heap_request.Asked k number)) is =
      either P (m.call == number) _ (misfit s) (learned-row k number _ is) rows.breach
  learns-row body (Some (heap_request.Told r)) is = rows.breach
  learns-row body None is = rows.breach

  answered_row : P (told_answer me s from m)
  answered_row =
      either P (from == 0 && m.origin == me) (learns s m.call m.content s.heap_request) (misfit s)
      (learns-row m.content s.heap_request refl) rows.breach

  as-row : (body : Content) → P (heap_told_as me s from m body)
  as-row (content.AllocReq size) = served-row (Alloc size)
  as-row (content.FreeReq addr) = served-row (Free addr)
  as-row (content.AllocRep code addr) = answered_row
  as-row (content.FreeRep code) = answered_row
  as-row (content.ReadReq page) = rows.breach
  as-row (content.WriteReq page) = rows.breach
  as-row (content.ReadRep page bytes) = rows.breach
  as-row (content.WriteRep page copies bytes) = rows.breach
  as-row (content.Inval page) = rows.breach
  as-row (content.InvalAck page) = rows.breach

  -- what each row has, each message has
  pub told-by_rows : P (heap_told me s from m)
  unfolding heap_told
  told-by_rows = as-row m.content

-- a message that fits no rule of the heap changes nothing
pub misfit_stays : (me : ℕ) (s : HeapSide) (from : ℕ) (m : Message)
    → (heap_told me s from m).fits ≡ false
    → ((heap_told me s from m).after ≡ s) × ((heap_told me s from m).posted ≡ [])
misfit_stays me s from m =
    told-by_rows {P = λ t. t.fits ≡ false → (t.after ≡ s) × (t.posted ≡ [])}
    (record {
      breach = λ h. (refl, refl);
      serves = λ k h is e. absurd cc;
      told = λ k number r is e. absurd cc;
    })
