use Rattle.example_programs.proofs.Folding.{all-name_the_highest_by_tree}
use Rattle.example_programs.proofs.law.all_name_the_highest_by_tree.Goals as goal

pub returns : goal.returns
returns c = all-name_the_highest_by_tree
