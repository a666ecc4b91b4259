use Rattle.proof_answers.proofs.sweeps.FewWorlds.{few_are_under_way, few_are_under_way_idle, few_are_under_way_unfetched}
use Rattle.proof_answers.proofs.law.few_are_under_way.Goals as goal

pub returns-clause-fetching : goal.returns-clause-fetching
returns-clause-fetching c = few_are_under_way

pub returns-clause-idle : goal.returns-clause-idle
returns-clause-idle c = few_are_under_way_idle

pub returns-clause-unfetched : goal.returns-clause-unfetched
returns-clause-unfetched c = few_are_under_way_unfetched
