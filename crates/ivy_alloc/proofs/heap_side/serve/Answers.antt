use Rattle.std.proofs.Common.{Err, sym, ap, ◌∙◌, subst, refl}
use Rattle.ivy_alloc.specs.declared.answer.CallProgress.TheVariants.{Given}
use Rattle.ivy_alloc.specs.HeapCalls.{IsAddress}
use Rattle.ivy_alloc.specs.stated.HeapCalls.{told_of}
use Rattle.ivy_alloc.proofs.Growing.{alloc_grows}
use Rattle.ivy_alloc.proofs.heap_side.serve.Goals as goal

pub returns-in-Err-Memory-clause-fault : goal.returns-in-Err-Memory-clause-fault
returns-in-Err-Memory-clause-fault g c = (
  subst (λ k. IsAddress (Given (told_of c.args.heap.now k).reply)) (sym c.in-Alloc.is)
      (alloc_grows c.args.heap.now c.in-Alloc.size c.alloc.result
      (c.in-Err-Memory.is ∙ ap Err c.in-Err-Memory.field-0-is) c.alloc.ensures.empty.1
      c.alloc.ensures.full.1),
  refl,
)
