use Rattle.example_programs.proofs.Ringing.{tree_rings-turn}
use Rattle.example_programs.proofs.law.tree_rings_turn.Goals as goal

pub returns : goal.returns
returns c = tree_rings-turn
