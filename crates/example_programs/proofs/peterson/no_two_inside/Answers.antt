use Rattle.example_programs.proofs.Excluding.{no-two_inside}
use Rattle.example_programs.proofs.peterson.no_two_inside.Goals as goal

pub returns : goal.returns
returns c = no-two_inside
