use Rattle.std.proofs.Common.{◌<◌, length, ap, sym, refl, ◌∙◌, subst}
use Rattle.ivy_pagetable.specs.stated.Tables.{page_at}
use Rattle.ivy_pagetable.specs.Lending.{page_given_back}
use Rattle.ivy_pagetable.proofs.Regions.{page_lent, page_sized, region_written}
use Rattle.ivy_pagetable.proofs.node_table.PageTable.page_mut.Goals as goal

pub returns : goal.returns
returns g c =
    let there = subst (λ t. c.args.page < length t.entries) (sym c.self.view_is) c.requires in
    let at = c.place-place in
    let region = c.self.inside.region in (
      (
        refl,
        λ w. region_written c.self.inside.page_size c.args.page region.len at.result.start
            c.self.inside.entries.items region.items w there c.self.invariant region.ok.0
            at.ensures.start ∙ ap (λ t. page_given_back t c.args.page w) c.self.view_is,
      ),
      record {
        writes_back = tt;
        bytes = c.slice_mut.ensures.value
            ∙ page_lent c.self.inside.page_size _ c.args.page at.result.start at.result.end
            region.items there c.self.invariant at.ensures.start at.ensures.end
            ∙ ap (λ t. page_at t c.args.page) c.self.view_is;
        sized = ap length c.slice_mut.ensures.value
            ∙ page_sized c.self.inside.page_size _ c.args.page at.result.start at.result.end
            region.items there c.self.invariant at.ensures.start at.ensures.end
            ∙ ap (λ t. t.page_size) c.self.view_is;
      },
    )
