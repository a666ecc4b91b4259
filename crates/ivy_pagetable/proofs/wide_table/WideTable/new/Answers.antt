use Rattle.ivy_pagetable.proofs.WideTables.{first_wide}
use Rattle.ivy_pagetable.proofs.wide_table.WideTable.new.Goals as goal

pub returns-clause-first : goal.returns-clause-first
returns-clause-first g c =
    first_wide c.args.config.now c.args.me c.in_ok-idle.idle.items c.new.result.items c.in_ok-pages.pages.items
    c.in_ok-idle.ensures c.new.ensures c.in_ok-pages.ensures
