use Rattle.ivy_memory.proofs.batches.AtOnce.{words_answered}
use Rattle.ivy_model.specs.declared.Row.TheVariants.{Stores}
use Rattle.ivy_memory.proofs.memory.Memory.store_row.Goals as goal

pub returns-clause-hits : goal.returns-clause-hits
returns-clause-hits g c =
    words_answered _ _ c.self.view_is c.self.invariant.0 c.in-Some.ensures.idle c.args.addr
    c.in-Some.at c.in-Some.ensures.at Stores c.store_row.new.self c.store_row.result
    c.args.from.now c.store_row.ensures.within c.store_row.ensures.hits
