-- Words that ask for nothing say nothing of logs.
use Rattle.std.proofs.lemmas.Result.{err_from_is_err_and}
use Rattle.ivynode.proofs.obey.Goals as goal

pub returns-in_err-request-clause-joins : goal.returns-in_err-request-clause-joins
returns-in_err-request-clause-joins g c = λ asks. (
    let p = err_from_is_err_and c.from_residual.result c.from_residual.ensures.1 in
    rw p.1 (λ told. absurd (p.2 told))
    )
