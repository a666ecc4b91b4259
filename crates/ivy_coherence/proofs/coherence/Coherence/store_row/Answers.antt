use Rattle.std.proofs.Common.{◌≡◌, true, rules}
use Rattle.ivy_coherence.proofs.batches.Hits.{stores_hit}
use Rattle.ivy_coherence.proofs.coherence.Coherence.store_row.Goals as goal

pub returns-clause-hits : goal.returns-clause-hits
returns-clause-hits g c =
    let held : c.is_at_hand.result ≡ true = search rules in
    stores_hit _ _ c.self.view_is c.self.invariant.0 c.args.page c.requires.page c.args.offset _ _
    _ c.is_at_hand.result c.is_at_hand.ensures held c.store_row.ensures.carried
    c.store_row.ensures.bytes
