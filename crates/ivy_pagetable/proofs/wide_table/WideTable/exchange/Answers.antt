use Rattle.ivy_pagetable.proofs.WideTables.{page_set}
use Rattle.ivy_pagetable.proofs.wide_table.WideTable.exchange.Goals as goal

pub returns : goal.returns
returns g c =
    page_set c.args.self.now c.self.inside.page_size c.self.inside.idle.items c.self.inside.locked.items
    c.self.inside.pages.items c.self.view_is c.args.page c.swap.new.x c.args.spare.now
    c.swap.ensures.x_after c.requires.sized
