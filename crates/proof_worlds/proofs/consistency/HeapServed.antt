-- A call that the heap of node 0 serves is one call of the flat memory with the same live blocks.
use Rattle.std.proofs.Common.{◌≡◌, ℕ, Option, Some, None, Result, Ok, Err, sym, subst}
use Rattle.ivy_model.specs.declared.Config.{Config}
use Rattle.ivy_model.specs.declared.Call.{Call}
use Rattle.ivy_model.specs.declared.Call.TheVariants as call
use Rattle.ivy_model.specs.declared.Fault.{Fault}
use Rattle.ivy_model.specs.stated.Memory as model
use Rattle.ivy_model.specs.stated.Serves.{Serves}
use Rattle.ivy_pagetable.specs.declared.Word.{Word}
use Rattle.ivy_alloc.specs.stated.Heap.{HeapState}
use Rattle.ivy_alloc.specs.stated.HeapAnswers.{alloc_told, free_told}
use Rattle.ivy_alloc.specs.Laws.{with_blocks}
use Rattle.ivy_alloc.proofs.Answered.{alloc_served, free_served}
use Rattle.ivy_memory.specs.declared.Asked.TheVariants as asked
use Rattle.ivy_alloc.specs.declared.HeapCall.{HeapCall}
use Rattle.ivy_alloc.specs.declared.HeapCall.TheVariants as heap
use Rattle.ivy_memory.specs.stated.Asking.{asked_of, count_asked, word_unless}
use Rattle.ivy_alloc.specs.stated.HeapCalls.{told_of}

-- the flat memory after the call, whose live blocks are those of the heap then
abbrev pub memory_told : model.Memory → HeapState → HeapCall → model.Memory
memory_told old h k = with_blocks old (told_of h k).blocks

-- a word is no call of the heap
not_word : (o : Option ℕ) (page : ℕ) (w : Word) (k : HeapCall) → word_unless o page w ≡ asked.Heap k
    → ⊥
not_word None page w k is = absurd cc
not_word (Some code) page w k is = absurd cc

not_count : (r : Result Word Fault) (k : HeapCall) → count_asked r ≡ asked.Heap k → ⊥
not_count (Ok w) k is = absurd cc
not_count (Err fault) k is = absurd cc

module _ (c : Config) (old : model.Memory) (h : HeapState) (config : h.config ≡ c)
    (blocks : h.blocks ≡ old.blocks) where
  abbrev IsServedBy : Call → HeapCall → Type 0
  IsServedBy called k = Serves c old called (told_of h k).reply (memory_told old h k)

  alloc_by : (size : ℕ) → IsServedBy (call.Alloc size) (heap.Alloc size)
  alloc_by size =
      subst (λ b. Serves c old (call.Alloc size) (alloc_told h.config b size).reply
      (with_blocks old (alloc_told h.config b size).blocks)) (sym blocks)
      (subst (λ d. Serves c old (call.Alloc size) (alloc_told d old.blocks size).reply
      (with_blocks old (alloc_told d old.blocks size).blocks)) (sym config)
      (alloc_served c old size))

  free_by : (addr : ℕ) → IsServedBy (call.Free addr) (heap.Free addr)
  free_by addr =
      subst (λ b. Serves c old (call.Free addr) (free_told b addr).reply
      (with_blocks old (free_told b addr).blocks)) (sym blocks) (free_served c old addr)

  pub heap_served : (called : Call) (k : HeapCall) → asked_of c called ≡ asked.Heap k
      → IsServedBy called k
  heap_served (call.Alloc size) k of =
      (let e : heap.Alloc size ≡ k = cc in subst (IsServedBy (call.Alloc size)) e (alloc_by size))
  heap_served (call.Free addr) k of =
      (let e : heap.Free addr ≡ k = cc in subst (IsServedBy (call.Free addr)) e (free_by addr))
  heap_served (call.Count n) k of = absurd (not_count _ k of)
  heap_served (call.Advance n) k of = absurd (not_count _ k of)
  heap_served (call.Await n least) k of = absurd (not_count _ k of)
  heap_served called k of = absurd (not_word _ _ _ k of)
