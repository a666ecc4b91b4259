use Rattle.std.proofs.Common.{◌≡◌, sym, ◌∙◌}
use Rattle.std.proofs.lemmas.Result.{IfOk-weaker}
use Rattle.ivy_standstill.specs.declared.end.End.TheVariants.{Programs, Standstill}
use Rattle.ivy_scope.proofs.watched.session.look_again.Goals as goal

-- a standstill is no end of all programs
not-programs : Standstill ≡ Programs → ⊥
not-programs is = cc

pub returns-in-Standstill-clause-ended : goal.returns-in-Standstill-clause-ended
returns-in-Standstill-clause-ended g c =
    IfOk-weaker c.at_standstill.result _ _
    (λ looked same is. absurd (not-programs (sym c.in-Standstill.is ∙ is)))
    c.at_standstill.ensures.same

pub returns-in-Standstill-clause-still : goal.returns-in-Standstill-clause-still
returns-in-Standstill-clause-still g c =
    IfOk-weaker c.at_standstill.result _ _ (λ looked still is. still) c.at_standstill.ensures.still

pub returns-in-Programs-clause-ended : goal.returns-in-Programs-clause-ended
returns-in-Programs-clause-ended g c = λ is. c.have_ended.ensures.0 c.if-have_ended.true
