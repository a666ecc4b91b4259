use Rattle.std.proofs.Common.{◌≡◌, ◌*◌, length}
use Rattle.ivy_model.specs.declared.row.Row.TheVariants.{Stores}
use Rattle.ivy_model.specs.Rows.{numbers_in}
use Rattle.ivy_calls.specs.BlockAnswers.{in_row}
use Rattle.example_programs.specs.NumberRows.{stores_each, times}
use Rattle.example_programs.proofs.matrix.Matrices.make.Given as goal

abbrev pub invariant-loop-column : goal.invariant-loop-column
invariant-loop-column g l = record {
  long : length l.products.items ≡ 8 * l.column;
  made : in_row Stores l.at (numbers_in l.column l.products.items)
      ≡ stores_each l.at (times l.left.items l.right) l.column;
}
