use Rattle.std.proofs.Common.{subst, All}
use Rattle.ivy_program.specs.Programs.{IsWritten}
use Rattle.ivy_session.proofs.Reported.{if_written}
use Rattle.ivy_session.proofs.session.Session.run_opening.Goals as goal

pub returns-clause-report : goal.returns-clause-report
returns-clause-report g c =
    if_written c.args.config c.args.opening c.args.programs.items c.play.result
    (subst (All IsWritten) c.deref.ensures.value c.are_written.ensures) c.play.ensures.report
