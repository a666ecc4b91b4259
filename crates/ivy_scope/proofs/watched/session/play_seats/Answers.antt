use Rattle.std.proofs.Common.{refl, sym, subst}
use Rattle.std.proofs.lemmas.Result.{IfOk-from_err, err_from_is_err_and}
use Rattle.ivy_standstill.specs.SoFar.{AllKeepSoFar, IsHandedSoFar}
use Rattle.ivy_scope.proofs.watched.session.play_seats.Goals as goal

pub returns-clause-played : goal.returns-clause-played
returns-clause-played g c = record {
  handed = subst (IsHandedSoFar g.S.Setup.config g.S.Setup.opened g.S.Setup.programs)
      (sym c.in_ok-looked.ensures.same) c.in_ok-report.ensures.report;
  kept = subst (AllKeepSoFar c.args.terms.now.keep) (sym c.in_ok-looked.ensures.same)
      c.in_ok-report.ensures.keep;
  ended = c.in_ok-looked.ensures.ended;
  still = c.in_ok-looked.ensures.still;
}

pub end_of-requires : goal.end_of-requires
end_of-requires g c = record { stop = c.run_workers.ensures }

pub collect-requires-clause-limits : goal.collect-requires-clause-limits
collect-requires-clause-limits g c = c.requires.limits

pub collect-requires-clause-each : goal.collect-requires-clause-each
collect-requires-clause-each g c = c.requires.each

pub collect-requires-clause-nodes : goal.collect-requires-clause-nodes
collect-requires-clause-nodes g c = c.requires.nodes

pub collect-requires-clause-home : goal.collect-requires-clause-home
collect-requires-clause-home g c = c.requires.home

pub collect-requires-clause-starter : goal.collect-requires-clause-starter
collect-requires-clause-starter g c = c.requires.starter

pub returns-clause-stop : goal.returns-clause-stop
returns-clause-stop g c = tt

pub returns-in_err-notes-clause-played : goal.returns-in_err-notes-clause-played
returns-in_err-notes-clause-played g c = IfOk-from_err c.from_residual.result _ c.from_residual.ensures.0

pub returns-in_err-notes-clause-stop : goal.returns-in_err-notes-clause-stop
returns-in_err-notes-clause-stop g c =
    let p = err_from_is_err_and c.from_residual.result c.from_residual.ensures.1 in rw (p.1, p.2) refl

pub returns-in_err-seats-clause-played : goal.returns-in_err-seats-clause-played
returns-in_err-seats-clause-played g c = IfOk-from_err c.from_residual-in_err-seats.result _ c.from_residual-in_err-seats.ensures.0

pub returns-in_err-seats-clause-stop : goal.returns-in_err-seats-clause-stop
returns-in_err-seats-clause-stop g c =
    let p = err_from_is_err_and c.from_residual-in_err-seats.result c.from_residual-in_err-seats.ensures.1 in rw (p.1, p.2) refl

pub returns-in_err-end-clause-played : goal.returns-in_err-end-clause-played
returns-in_err-end-clause-played g c = IfOk-from_err c.from_residual-in_err-end.result _ c.from_residual-in_err-end.ensures.0

pub returns-in_err-end-clause-stop : goal.returns-in_err-end-clause-stop
returns-in_err-end-clause-stop g c =
    let p = err_from_is_err_and c.from_residual-in_err-end.result c.from_residual-in_err-end.ensures.1 in rw (p.1, p.2) c.in_err-end.ensures.stop

pub returns-in_err-report-clause-played : goal.returns-in_err-report-clause-played
returns-in_err-report-clause-played g c = IfOk-from_err c.from_residual-in_err-report.result _ c.from_residual-in_err-report.ensures.0

pub returns-in_err-report-clause-stop : goal.returns-in_err-report-clause-stop
returns-in_err-report-clause-stop g c =
    let p = err_from_is_err_and c.from_residual-in_err-report.result c.from_residual-in_err-report.ensures.1 in rw (p.1, p.2) c.in_err-report.ensures.stop

pub returns-in_err-looked-clause-played : goal.returns-in_err-looked-clause-played
returns-in_err-looked-clause-played g c = IfOk-from_err c.from_residual-in_err-looked.result _ c.from_residual-in_err-looked.ensures.0

pub returns-in_err-looked-clause-stop : goal.returns-in_err-looked-clause-stop
returns-in_err-looked-clause-stop g c =
    let p = err_from_is_err_and c.from_residual-in_err-looked.result c.from_residual-in_err-looked.ensures.1 in rw (p.1, p.2) c.in_err-looked.ensures.stop
