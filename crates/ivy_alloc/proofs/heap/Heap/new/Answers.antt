use Rattle.std.proofs.Common.{arith}
use Rattle.ivy_alloc.proofs.HeapBounds.{tied_first}
use Rattle.ivy_alloc.proofs.heap.Heap.new.Goals as goal

pub invariant_of-result : goal.invariant_of-result
invariant_of-result g c =
    let e = c.push_reserved.ensures in (
      rw (
        e.items,
        c.in_ok-extents.ensures.items,
        c.new.ensures.empty,
        c.heap_end.ensures,
        c.from-start.ensures,
      ) (tied_first c.args.config.now c.requires),
      omega (
        arith,
        e.len,
        e.capacity,
        c.in_ok-extents.ensures.len,
        c.in_ok-extents.ensures.capacity,
        c.new.ensures.len,
      ),
    )
