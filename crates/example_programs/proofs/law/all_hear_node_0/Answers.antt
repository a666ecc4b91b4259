use Rattle.example_programs.proofs.Folding.{all-hear_node_0}
use Rattle.example_programs.proofs.law.all_hear_node_0.Goals as goal

pub returns : goal.returns
returns c = all-hear_node_0
