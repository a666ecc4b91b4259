use Rattle.std.proofs.Common.{[], refl, ap, ◌∙◌}
use Rattle.std.proofs.lemmas.List.{set-get_or}
use Rattle.ivy_pagetable.proofs.WideTables.{OwnPage, shown, changed}
use Rattle.ivy_pagetable.proofs.wide_table.WideTable.make.Goals as goal

pub returns : goal.returns
returns g c =
    let page : OwnPage c.args.self.now c.self.inside.page_size c.self.inside.idle.items
    c.self.inside.locked.items c.self.inside.pages.items c.args.page c.index_mut-own.result.now =
    record {
      is = c.self.view_is;
      count = c.self.invariant.count;
      sized = c.self.invariant.sized;
      inside = c.requires;
      own_is = c.index_mut-own.ensures.value;
    } in
    changed page (λ bytes. bytes) c.make.new.self c.make.new.self
    (c.in_ok-make.ensures.ok ∙ shown page) refl refl
    ∙ ap (λ pages. record {
      page_size = c.args.self.now.page_size;
      entries = c.args.self.now.entries;
      pages = pages;
    }) (set-get_or c.args.self.now.pages c.args.page [])
