use Rattle.example_programs.proofs.Ringing.{word_rings-turn}
use Rattle.example_programs.proofs.law.word_rings_turn.Goals as goal

pub returns : goal.returns
returns c = word_rings-turn
