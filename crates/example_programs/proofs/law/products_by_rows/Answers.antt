use Rattle.example_programs.proofs.Multiplying.{products-by_rows}
use Rattle.example_programs.proofs.law.products_by_rows.Goals as goal

pub returns : goal.returns
returns c = products-by_rows
