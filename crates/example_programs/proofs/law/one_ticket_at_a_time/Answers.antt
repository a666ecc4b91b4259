use Rattle.example_programs.proofs.Turning.{one-ticket_at_a_time}
use Rattle.example_programs.proofs.law.one_ticket_at_a_time.Goals as goal

pub returns : goal.returns
returns c = one-ticket_at_a_time
