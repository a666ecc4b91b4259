use Rattle.std.proofs.Common.{sym, ◌∙◌}
use Rattle.ivy_coherence.proofs.keeping.EventTable.{fetchable_is}
use Rattle.ivy_coherence.proofs.coherence.Coherence.fetch.Goals as goal

pub start_fetch-requires-clause-may : goal.start_fetch-requires-clause-may
start_fetch-requires-clause-may g c =
    fetchable_is c.args.self.now c.args.page c.args.write c.in-Some.idle
    (sym c.fetchable.ensures ∙ c.in-Some.is)
