use Rattle.std.proofs.Common.{◌≡◌, Result, Ok, Err, length, refl, subst, All, arith}
use Rattle.std.specs.Prelude.{IfErr, IsErrOf, true, false}
use Rattle.std.proofs.lemmas.Result.{IfOk-from_err}
use Rattle.ivy_model.specs.declared.Fault.{Fault}
use Rattle.ivy_model.specs.declared.Fault.TheVariants.{BadConfig}
use Rattle.ivy_workers.specs.Stops.{IsStop}
use Rattle.ivy_session.specs.Faults.{IsSessionFault}
use Rattle.ivy_program.specs.Programs.{IsWritten}
use Rattle.ivy_scope.proofs.SessionEnds.{if_ended, if_kept, if_settled, if_still, if_unblocked, if_written}
use Rattle.ivy_scope.proofs.watched.session.run_watched.Goals as goal

fault_of_stop : (fault : Fault) → IsStop fault → IsSessionFault fault
fault_of_stop BadConfig stop = tt
fault_of_stop fault stop = stop

-- what stops a session is a fault of sessions
stop_is_fault : {X : Type 0} (r : Result X Fault) → IfErr r IsStop → IfErr r IsSessionFault
stop_is_fault (Ok x) stop = tt
stop_is_fault (Err fault) stop = fault_of_stop fault stop

-- and not the one of configurations
stop_is_not_bad : {X : Type 0} (r : Result X Fault) → IfErr r IsStop → IsErrOf r BadConfig → ⊥
stop_is_not_bad r stop is =
    (let wrong : false ≡ true = subst (λ x. IfErr x IsStop) is stop in absurd cc)

pub returns-clause-report : goal.returns-clause-report
returns-clause-report g c =
    if_written c.args.config c.args.terms.now.opening c.args.programs.items c.args.terms.now.keep c.play.result
    (subst (All IsWritten) c.deref.ensures.value c.are_written.ensures) c.play.ensures.played

pub returns-clause-keep : goal.returns-clause-keep
returns-clause-keep g c =
    if_kept c.args.config c.args.terms.now.opening c.args.programs.items c.args.terms.now.keep c.play.result
    c.play.ensures.played

pub returns-clause-ended : goal.returns-clause-ended
returns-clause-ended g c =
    if_ended c.args.config c.args.terms.now.opening c.args.programs.items c.args.terms.now.keep c.play.result
    c.play.ensures.played

pub returns-clause-still : goal.returns-clause-still
returns-clause-still g c =
    if_still c.args.config c.args.terms.now.opening c.args.programs.items c.args.terms.now.keep c.play.result
    c.play.ensures.played

pub returns-clause-unblocked : goal.returns-clause-unblocked
returns-clause-unblocked g c =
    if_unblocked c.args.config c.args.terms.now.opening c.args.programs.items c.args.terms.now.keep c.play.result
    (subst (All IsWritten) c.deref.ensures.value c.are_written.ensures) c.play.ensures.played

pub returns-clause-settled : goal.returns-clause-settled
returns-clause-settled g c =
    if_settled c.args.config c.args.terms.now.opening c.args.programs.items c.args.terms.now.keep c.play.result
    (subst (All IsWritten) c.deref.ensures.value c.are_written.ensures) c.play.ensures.played

pub returns-in_err-check-clause-report : goal.returns-in_err-check-clause-report
returns-in_err-check-clause-report g c = IfOk-from_err c.from_residual.result _ c.from_residual.ensures.0

pub returns-in_err-check-clause-keep : goal.returns-in_err-check-clause-keep
returns-in_err-check-clause-keep g c = IfOk-from_err c.from_residual.result _ c.from_residual.ensures.0

pub returns-in_err-check-clause-ended : goal.returns-in_err-check-clause-ended
returns-in_err-check-clause-ended g c = IfOk-from_err c.from_residual.result _ c.from_residual.ensures.0

pub returns-in_err-check-clause-still : goal.returns-in_err-check-clause-still
returns-in_err-check-clause-still g c = IfOk-from_err c.from_residual.result _ c.from_residual.ensures.0

pub returns-in_err-check-clause-unblocked : goal.returns-in_err-check-clause-unblocked
returns-in_err-check-clause-unblocked g c = IfOk-from_err c.from_residual.result _ c.from_residual.ensures.0

pub returns-in_err-check-clause-settled : goal.returns-in_err-check-clause-settled
returns-in_err-check-clause-settled g c = IfOk-from_err c.from_residual.result _ c.from_residual.ensures.0

pub play-requires-clause-config : goal.play-requires-clause-config
play-requires-clause-config g c = λ lifetimes outlives. refl

pub play-requires-clause-opened : goal.play-requires-clause-opened
play-requires-clause-opened g c = λ lifetimes outlives. refl

pub play-requires-clause-programs : goal.play-requires-clause-programs
play-requires-clause-programs g c = λ lifetimes outlives. refl

pub play-requires-clause-limits : goal.play-requires-clause-limits
play-requires-clause-limits g c = λ lifetimes outlives. c.in_ok-check.ensures.limits

pub returns-clause-fault : goal.returns-clause-fault
returns-clause-fault g c = stop_is_fault c.play.result c.play.ensures.stop

-- each was checked before
pub returns-clause-bad : goal.returns-clause-bad
returns-clause-bad g c =
    let count : length c.args.programs.items ≡ c.args.config.nodes =
    let ok = c.args.programs.ok.0 in let len = c.len.ensures in let same = c.if-len-from.false in
    let from = c.from.ensures in omega (arith, ok, len, same, from) in (
      λ is. absurd (stop_is_not_bad c.play.result c.play.ensures.stop is),
      λ out. absurd
          (out
          (c.in_ok-check.ensures.accepted.0 refl, count, c.are_valid.ensures.0 c.if-not-are_valid.false)),
    )

pub play-requires-clause-each : goal.play-requires-clause-each
play-requires-clause-each g c = λ lifetimes outlives.
    let ok = c.args.programs.ok.0 in let len = c.len.ensures in let same = c.if-len-from.false in
    let from = c.from.ensures in omega (arith, ok, len, same, from)

pub play-requires-clause-capacity : goal.play-requires-clause-capacity
play-requires-clause-capacity g c = λ lifetimes outlives.
    (c.are_valid.ensures.0 c.if-not-are_valid.false).some
