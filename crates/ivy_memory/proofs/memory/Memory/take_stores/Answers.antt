use Rattle.std.proofs.Common.{◌≡◌, true, rules}
use Rattle.ivy_memory.proofs.batches.BatchedReplies.{stores_taken}
use Rattle.ivy_memory.proofs.memory.Memory.take_stores.Goals as goal

pub returns-clause-taken : goal.returns-clause-taken
returns-clause-taken g c = λ node.
    let yes : c.are_stores.result ≡ true = search rules in
    stores_taken g.M.Manager.ops node c.args.addr c.take_all.result c.args.from.now
    c.take_all.new.into c.args.self.now c.take_all.new.self c.take_all.ensures.many
    (c.are_stores.ensures.calls yes) (c.take_all.ensures.taken node)
