use Rattle.example_programs.proofs.Counted.{none-is_lost}
use Rattle.example_programs.proofs.peterson.count.Goals as goal

pub returns : goal.returns
returns g c =
    none-is_lost c.args.config c.args.work.now _ c.in_ok-report.report.outs.items c.requires
    c.in_ok-report.ensures.report.shared
