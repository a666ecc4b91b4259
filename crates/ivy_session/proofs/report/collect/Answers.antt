use Rattle.std.proofs.Common.{rules, ◌≡◌, length, sym, subst}
use Rattle.ivy_ether.specs.Held.{Held}
use Rattle.ivy_seating.specs.Collected.{AreTold}
use Rattle.ivy_session.proofs.Reported.{reported}
use Rattle.ivy_session.proofs.report.collect.Goals as goal

pub returns-clause-report : goal.returns-clause-report
returns-clause-report g c =
    let told =
    subst (λ (h : Held). AreTold g.S.Setup.config g.S.Setup.opened g.S.Setup.programs h.known
    c.in_ok-report.report)
    (sym c.learn.ensures.same) c.in_ok-report.ensures.told in
    let many : length c.in_ok-report.report ≡ length g.S.Setup.programs = search rules in
    reported g.S.Setup.config g.S.Setup.opened g.S.Setup.programs c.requires.limits c.requires.each
    c.in_ok-report.report c.learn.new.pass.known many told c.learn.ensures.told
