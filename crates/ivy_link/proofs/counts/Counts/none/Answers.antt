use Rattle.std.proofs.lemmas.List.{get_or-replicate}
use Rattle.ivy_model.specs.stated.Limits.{most_nodes}
use Rattle.ivy_link.proofs.counts.Counts.none.Goals as goal

pub returns : goal.returns
returns c = λ j within. get_or-replicate most_nodes j 0 0 within
