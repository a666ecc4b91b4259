use Rattle.ivy_model.specs.declared.Row.TheVariants.{Loads}
use Rattle.ivy_own.proofs.InRow.{row_owned}
use Rattle.ivy_own.proofs.owned.load_row_at.Goals as goal

pub returns-clause-owned : goal.returns-clause-owned
returns-clause-owned g c =
    row_owned Loads c.args.addr _ c.args.seated.now.site c.load_row-words.new.self.site c.args.half.now
    c.tell_row.new.half c.requires.owned c.load_row-words.ensures.loads c.tell_row.ensures.half
