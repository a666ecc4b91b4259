use Rattle.example_programs.proofs.Calling.{all-are_called}
use Rattle.example_programs.proofs.law.all_are_called.Goals as goal

pub returns : goal.returns
returns c = all-are_called
