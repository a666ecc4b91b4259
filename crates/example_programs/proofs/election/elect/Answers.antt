use Rattle.example_programs.proofs.Elected.{all-name_one}
use Rattle.example_programs.proofs.election.elect.Goals as goal

pub returns : goal.returns
returns g c =
    all-name_one c.args.config c.args.election.now.addr _ c.in_ok-report.report.outs.items
    c.requires c.in_ok-report.ensures.report.shared
