use Rattle.example_programs.proofs.Making.{made_locks-exclude}
use Rattle.example_programs.proofs.law.made_locks_exclude.Goals as goal

pub returns : goal.returns
returns c = made_locks-exclude
