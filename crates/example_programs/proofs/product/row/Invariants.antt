use Rattle.std.proofs.Common.{◌≡◌, ℕ, ◌<◌, length}
use Rattle.std.specs.Prelude.{slice_index}
use Rattle.example_programs.specs.Matrices.{product_at}
use Rattle.example_programs.proofs.product.row.Given as goal

abbrev pub invariant-loop-j : goal.invariant-loop-j
invariant-loop-j l = record {
  long : length l.out.items ≡ l.j;
  each : (j : ℕ) → j < l.j → slice_index l.out.items j ≡ product_at l.size l.left l.right l.i j;
}
