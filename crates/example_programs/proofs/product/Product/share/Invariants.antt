use Rattle.std.proofs.Common.{◌≡◌, ◌*◌}
use Rattle.example_programs.specs.Matrices.{stores_of}
use Rattle.example_programs.proofs.product.Product.share.Given as goal

abbrev pub invariant-loop-k : goal.invariant-loop-k
invariant-loop-k g l =
    g.M.SharedMemory.answers l.memory
    ≡ stores_of l.self.addr l.self.right.items (l.me * l.self.barrier.nodes) l.k
