use Rattle.example_programs.proofs.Counting.{one-place_at_a_time}
use Rattle.example_programs.proofs.law.one_place_at_a_time.Goals as goal

pub returns : goal.returns
returns c = one-place_at_a_time
