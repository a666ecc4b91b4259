use Rattle.std.proofs.Common.{◌<◌, length, take, drop, ◌-◌, ap, sym, ◌∙◌, subst}
use Rattle.ivy_pagetable.specs.stated.Tables.{page_at}
use Rattle.ivy_pagetable.proofs.Regions.{page_lent}
use Rattle.ivy_pagetable.proofs.node_table.PageTable.page.Goals as goal

pub returns-clause-bytes : goal.returns-clause-bytes
returns-clause-bytes g c =
    let there = subst (λ t. c.args.page < length t.entries) (sym c.self.view_is) c.requires in
    ap (λ bs. take (c.place-place.result.end - c.place-place.result.start)
    (drop c.place-place.result.start bs)) c.deref.ensures.value
    ∙ page_lent c.self.inside.page_size _ c.args.page c.place-place.result.start
    c.place-place.result.end c.self.inside.region.items there c.self.invariant
    c.place-place.ensures.start c.place-place.ensures.end
    ∙ ap (λ t. page_at t c.args.page) c.self.view_is
