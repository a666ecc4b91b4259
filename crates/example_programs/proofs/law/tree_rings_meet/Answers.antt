use Rattle.example_programs.proofs.Ringing.{tree_rings-meet}
use Rattle.example_programs.proofs.law.tree_rings_meet.Goals as goal

pub returns : goal.returns
returns c = tree_rings-meet
