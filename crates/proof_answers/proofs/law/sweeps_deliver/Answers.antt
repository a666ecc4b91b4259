use Rattle.proof_answers.proofs.sweeps.MoreSweeps.{sweeps_move_on, more_sweeps_deliver, enough_sweeps}
use Rattle.proof_answers.proofs.sweeps.Swept.{sweeps_deliver, few_for_sweeps, sweeps_deliver_unfetched}
use Rattle.proof_answers.proofs.law.sweeps_deliver.Goals as goal

pub returns-clause-moving : goal.returns-clause-moving
returns-clause-moving c = sweeps_move_on

pub returns-clause-few : goal.returns-clause-few
returns-clause-few c = sweeps_deliver

pub returns-clause-idle : goal.returns-clause-idle
returns-clause-idle c = few_for_sweeps

pub returns-clause-unfetched : goal.returns-clause-unfetched
returns-clause-unfetched c = sweeps_deliver_unfetched

pub returns-clause-more : goal.returns-clause-more
returns-clause-more c = more_sweeps_deliver

pub returns-clause-enough : goal.returns-clause-enough
returns-clause-enough c = enough_sweeps
