use Rattle.ivy_model.specs.declared.Row.TheVariants.{Loads}
use Rattle.ivy_own.proofs.InRow.{taken_owned}
use Rattle.ivy_own.proofs.owned.take_loads_at.Goals as goal

pub returns-clause-owned : goal.returns-clause-owned
returns-clause-owned g c =
    taken_owned Loads c.args.addr _ c.args.seated.now.site c.take_loads-taken.new.self.site
    c.args.half.now c.tell_row.new.half c.requires.owned c.take_loads-taken.ensures.taken c.tell_row.ensures.half
