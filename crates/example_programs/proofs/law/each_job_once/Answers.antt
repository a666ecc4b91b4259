use Rattle.example_programs.proofs.Farming.{each-job_once}
use Rattle.example_programs.proofs.law.each_job_once.Goals as goal

pub returns : goal.returns
returns c = each-job_once
