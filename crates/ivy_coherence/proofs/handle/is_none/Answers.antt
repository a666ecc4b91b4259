use Rattle.ivy_coherence.proofs.keeping.Opened.{none_is, some_is}
use Rattle.ivy_coherence.proofs.handle.is_none.Goals as goal

pub returns-clause-none : goal.returns-clause-none
returns-clause-none c =
    none_is c.args.nodes.now c.is_empty.result c.is_empty.ensures.0 c.is_empty.ensures.1

pub returns-clause-some : goal.returns-clause-some
returns-clause-some c = some_is c.args.nodes.now c.is_empty.result c.is_empty.ensures.1
