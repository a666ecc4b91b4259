use Rattle.example_programs.proofs.Summing.{all-read_the_sum}
use Rattle.example_programs.proofs.law.all_read_the_sum.Goals as goal

pub returns : goal.returns
returns c = all-read_the_sum
