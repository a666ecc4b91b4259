use Rattle.example_programs.proofs.Elected.{all-name_one}
use Rattle.example_programs.proofs.election.all_name_one.Goals as goal

pub returns : goal.returns
returns c = all-name_one
