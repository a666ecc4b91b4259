use Rattle.proof_answers.proofs.sweeps.MoreSweeps.{more_sweeps_are_rounds}
use Rattle.proof_answers.proofs.sweeps.Swept.{sweeps_are_rounds, sweeps_are_rounds_unfetched}
use Rattle.proof_answers.proofs.law.sweeps_are_rounds.Goals as goal

pub returns-clause-few : goal.returns-clause-few
returns-clause-few c = sweeps_are_rounds

pub returns-clause-unfetched : goal.returns-clause-unfetched
returns-clause-unfetched c = sweeps_are_rounds_unfetched

pub returns-clause-more : goal.returns-clause-more
returns-clause-more c = more_sweeps_are_rounds
