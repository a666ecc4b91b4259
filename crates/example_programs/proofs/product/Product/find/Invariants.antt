use Rattle.std.proofs.Common.{◌≡◌, ◌++◌, length}
use Rattle.ivy_sync.specs.meeting.Reductions.{finds}
use Rattle.example_programs.proofs.product.Product.find.Given as goal

abbrev pub invariant-loop-at : goal.invariant-loop-at
invariant-loop-at g l = record {
  long : length l.out.items ≡ l.at;
  whole : g.M.SharedMemory.answers l.memory
      ≡ g.M.SharedMemory.answers l.fn.memory ++ finds l.self.addr 0 l.out.items;
}
