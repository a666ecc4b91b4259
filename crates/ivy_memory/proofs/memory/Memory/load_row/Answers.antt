use Rattle.ivy_memory.proofs.batches.AtOnce.{loads_answered}
use Rattle.ivy_memory.proofs.memory.Memory.load_row.Goals as goal

pub returns-clause-hits : goal.returns-clause-hits
returns-clause-hits g c =
    loads_answered _ _ c.self.view_is c.self.invariant.0 c.in-Some.ensures.idle c.args.addr
    c.in-Some.at c.in-Some.ensures.at c.load_row.result c.load_row.new.into
    c.load_row.ensures.within c.load_row.ensures.hits
