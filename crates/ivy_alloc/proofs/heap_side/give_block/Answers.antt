use Rattle.std.proofs.Common.{Err, inl, ap, ◌∙◌, refl}
use Rattle.ivy_alloc.proofs.Growing.{alloc_grows}
use Rattle.ivy_alloc.proofs.heap_side.give_block.Goals as goal

pub returns-in-Err-Memory-clause-fault : goal.returns-in-Err-Memory-clause-fault
returns-in-Err-Memory-clause-fault g c =
    inl (
      (
        alloc_grows c.args.heap.now c.args.size c.alloc.result
            (c.in-Err-Memory.is ∙ ap Err c.in-Err-Memory.field-0-is) c.alloc.ensures.empty.1
            c.alloc.ensures.full.1,
        refl,
      ),
      refl,
    )
