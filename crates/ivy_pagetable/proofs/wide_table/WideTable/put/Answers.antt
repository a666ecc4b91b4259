use Rattle.ivy_model.specs.stated.Serves.{overwrite}
use Rattle.ivy_pagetable.proofs.WideTables.{OwnPage, has_own, changed}
use Rattle.ivy_pagetable.proofs.wide_table.WideTable.put.Goals as goal

pub returns-clause-put : goal.returns-clause-put
returns-clause-put g c h =
    let page : OwnPage c.args.self.now c.self.inside.page_size c.self.inside.idle.items
    c.self.inside.locked.items c.self.inside.pages.items c.args.page c.index_mut-own.result.now =
    record {
      is = c.self.view_is;
      count = c.self.invariant.count;
      sized = c.self.invariant.sized;
      inside = c.requires.page;
      own_is = c.index_mut-own.ensures.value;
    } in
    changed page (λ bytes. overwrite bytes c.args.start c.args.from.now)
    c.index_mut-own.result.now c.put.new.self
    (has_own page c.is_none.result c.is_none.ensures c.if-is_none.false) c.put.ensures.bytes
    c.put.ensures.sized
