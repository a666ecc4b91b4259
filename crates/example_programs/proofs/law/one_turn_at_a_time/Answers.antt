use Rattle.example_programs.proofs.Turning.{one-turn_at_a_time}
use Rattle.example_programs.proofs.law.one_turn_at_a_time.Goals as goal

pub returns : goal.returns
returns c = one-turn_at_a_time
