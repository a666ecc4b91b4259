use Rattle.std.proofs.Common.{◌≡◌, true, rules}
use Rattle.ivy_memory.proofs.batches.BatchedReplies.{loads_taken}
use Rattle.ivy_memory.proofs.memory.Memory.take_loads.Goals as goal

pub returns-clause-taken : goal.returns-clause-taken
returns-clause-taken g c = λ node.
    let yes : c.are_loads.result ≡ true = search rules in
    loads_taken g.M.Manager.ops node c.args.addr c.take_all.result c.take_all.new.into c.args.self.now
    c.take_all.new.self c.take_all.ensures.many
    (c.are_loads.ensures.calls yes c.take_all.new.into) (c.take_all.ensures.taken node)
