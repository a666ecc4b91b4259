use Rattle.std.proofs.Common.{◌≡◌, length, sym, subst, ◌∙◌}
use Rattle.std.proofs.lemmas.Result.{IfOk-from_err, err_from_is_err_and}
use Rattle.ivy_ether.specs.Held.{Held}
use Rattle.ivy_standstill.specs.CollectedSoFar.{AreToldSoFar}
use Rattle.ivy_standstill.proofs.SoFar.{reported_so_far}
use Rattle.ivy_scope.proofs.watched.close.collect.Goals as goal

pub returns-clause-report : goal.returns-clause-report
returns-clause-report g c =
    let told =
    subst (λ (h : Held). AreToldSoFar g.S.Setup.config g.S.Setup.opened g.S.Setup.programs h.known
    c.in_ok-report.report)
    (sym c.learn.ensures.same) c.in_ok-report.ensures.told in
    let many : length c.in_ok-report.report ≡ length g.S.Setup.programs =
    sym c.nodes.ensures ∙ c.if-nodes.false ∙ c.requires.nodes in
    reported_so_far g.S.Setup.config g.S.Setup.opened g.S.Setup.programs c.requires.limits c.requires.each
    c.in_ok-report.report c.learn.new.pass.known many told c.learn.ensures.told

pub close_all-requires-clause-home : goal.close_all-requires-clause-home
close_all-requires-clause-home g c = c.requires.home

pub close_all-requires-clause-starter : goal.close_all-requires-clause-starter
close_all-requires-clause-starter g c = c.requires.starter

pub learn-requires : goal.learn-requires
learn-requires g c = record { pass = c.in_ok-report.ensures.starter ∙ c.requires.starter }

pub returns-in_err-report-clause-report : goal.returns-in_err-report-clause-report
returns-in_err-report-clause-report g c = IfOk-from_err c.from_residual.result _ c.from_residual.ensures.0

pub returns-in_err-report-clause-keep : goal.returns-in_err-report-clause-keep
returns-in_err-report-clause-keep g c = IfOk-from_err c.from_residual.result _ c.from_residual.ensures.0

pub returns-in_err-report-clause-stop : goal.returns-in_err-report-clause-stop
returns-in_err-report-clause-stop g c =
    let p = err_from_is_err_and c.from_residual.result c.from_residual.ensures.1 in rw (p.1, p.2) c.in_err-report.ensures.stop

pub returns-clause-keep : goal.returns-clause-keep
returns-clause-keep g c = c.in_ok-report.ensures.keep

pub returns-clause-stop : goal.returns-clause-stop
returns-clause-stop g c = tt
