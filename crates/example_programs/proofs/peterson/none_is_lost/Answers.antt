use Rattle.example_programs.proofs.Counted.{none-is_lost}
use Rattle.example_programs.proofs.peterson.none_is_lost.Goals as goal

pub returns : goal.returns
returns c = none-is_lost
