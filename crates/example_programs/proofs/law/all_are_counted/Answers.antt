use Rattle.example_programs.proofs.Counting.{all-are_counted}
use Rattle.example_programs.proofs.law.all_are_counted.Goals as goal

pub returns : goal.returns
returns c = all-are_counted
