-- What was printed is the text of a report of this session.
use Rattle.std.specs.Prelude.{Result, Ok, Err, OnOk}
use Rattle.ivy_session.proofs.session.Session.print.Goals as goal

on_ok : {T E : Type 0} {A B : Type 0} (r : Result T E) → OnOk r A → (A → B) → OnOk r B
on_ok (Ok value) a then = then a
on_ok (Err fault) a then = tt

pub returns-clause-printed : goal.returns-clause-printed
returns-clause-printed g c =
    on_ok c.print.result c.print.ensures
    (λ printed. (_, c.in_ok-report.ensures.report, printed))
