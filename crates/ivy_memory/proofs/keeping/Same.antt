-- A message leaves a node who it is.
use Rattle.std.proofs.Common.{◌≡◌, ℕ, None, Result, OnOk, OnErr, refl, sym, ap, ◌∙◌}
use Rattle.ivy_wire.specs.stated.Data.{Message}
use Rattle.ivy_model.specs.declared.Config.{Config}
use Rattle.ivy_pagetable.specs.declared.Word.{Word}
use Rattle.ivy_pagetable.specs.stated.Manager.{Ops}
use Rattle.ivy_coherence.specs.stated.Coherent.{Coherent}
use Rattle.ivy_coherence.specs.stated.PageFaults.{begun}
use Rattle.ivy_coherence.specs.stated.MessageSteps.{handled}
use Rattle.ivy_coherence.proofs.keeping.Same as coherence
use Rattle.ivy_alloc.specs.stated.HeapCalls.{HeapTold, heap_told}
use Rattle.ivy_alloc.proofs.HeapMessages.{either}
use Rattle.ivy_memory.specs.stated.Memories.{NodeMemory, MemoryEffect, by_side, by_coherence, memory_told}
use Rattle.ivy_memory.proofs.keeping.Beginning.{of_either}
use Rattle.ivy_memory.proofs.keeping.WellBehaved.{SameNode}

module _ {S : Type 0} (ops : Ops S) where
  pub handled-same : (c : Coherent S) (from : ℕ) (m : Message)
      → SameNode c (handled ops c from m).after
  handled-same c from m =
      let s = coherence.handled-same ops c from m in
      record { config = s.config; me = s.me; sends_on = s.sends_on }

  -- whatever a message is about
  pub told-same : (m : NodeMemory S) (from : ℕ) (message : Message)
      → SameNode m.coherence (memory_told ops m from message).coherence
  told-same m from message =
      let t : HeapTold = heap_told m.coherence.me m.side from message in
      either (λ (e : MemoryEffect S). SameNode m.coherence e.after.coherence) t.fits (by_side m t)
      (by_coherence ops m from message) (record { config = refl; me = refl; sends_on = refl })
      (handled-same m.coherence from message)

  -- and the call in progress is in progress
  pub told-asked : (m : NodeMemory S) (from : ℕ) (message : Message)
      → (memory_told ops m from message).asked ≡ m.asked
  told-asked m from message =
      let t : HeapTold = heap_told m.coherence.me m.side from message in
      either (λ (e : MemoryEffect S). e.after.asked ≡ m.asked) t.fits (by_side m t)
      (by_coherence ops m from message) refl refl

  pub told-along : (m : NodeMemory S) (from : ℕ) (message : Message)
      → (memory_told ops m from message).along ≡ m.along
  told-along m from message =
      let t : HeapTold = heap_told m.coherence.me m.side from message in
      either (λ (e : MemoryEffect S). e.after.along ≡ m.along) t.fits (by_side m t)
      (by_coherence ops m from message) refl refl

  pub told-number : (m : NodeMemory S) (from : ℕ) (message : Message)
      → (memory_told ops m from message).number ≡ m.number
  told-number m from message =
      let t : HeapTold = heap_told m.coherence.me m.side from message in
      either (λ (e : MemoryEffect S). e.after.number ≡ m.number) t.fits (by_side m t)
      (by_coherence ops m from message) refl refl

-- A room that is as large as a page stays so.
module _ {S : Type 0} (ops : Ops S) (c : Coherent S) where
  pub begun_size : (page : ℕ) (w : Word) (number : ℕ) (new : Coherent S) (size : ℕ)
      → size ≡ c.config.page_size → new ≡ (begun ops c page w number).after
      → size ≡ new.config.page_size
  begun_size page w number new size long is =
      long
      ∙ sym (ap (λ (x : Coherent S). x.config.page_size) is
      ∙ ap (λ (k : Config). k.page_size) (coherence.begun-same ops c page w number).config)

  pub returned_size : (page : ℕ) (w : Word) (number : ℕ) (new last : Coherent S) (size : ℕ)
      → size ≡ c.config.page_size → new ≡ (begun ops c page w number).after
      → last ≡ record new { done = None } → size ≡ last.config.page_size
  returned_size page w number new last size long is gone =
      begun_size page w number new size long is
      ∙ sym (ap (λ (x : Coherent S). x.config.page_size) gone)

  pub handled_size : {A E : Type 0} (from : ℕ) (m : Message) (r : Result A E) (new : Coherent S)
      (size : ℕ) → size ≡ c.config.page_size → OnOk r (new ≡ (handled ops c from m).after)
      → OnErr r (new ≡ c) → size ≡ new.config.page_size
  handled_size from m r new size long good bad =
      of_either (λ (x : Coherent S). size ≡ x.config.page_size) r new _ _ good bad
      (long ∙ sym (ap (λ (k : Config). k.page_size) (coherence.handled-same ops c from m).config))
      long
