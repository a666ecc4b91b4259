use Rattle.example_programs.proofs.Ringing.{word_rings-meet}
use Rattle.example_programs.proofs.law.word_rings_meet.Goals as goal

pub returns : goal.returns
returns c = word_rings-meet
