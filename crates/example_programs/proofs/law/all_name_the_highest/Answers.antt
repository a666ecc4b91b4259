use Rattle.example_programs.proofs.Bidding.{all-name_the_highest}
use Rattle.example_programs.proofs.law.all_name_the_highest.Goals as goal

pub returns : goal.returns
returns c = all-name_the_highest
