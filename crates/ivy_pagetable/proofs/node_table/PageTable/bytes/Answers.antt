use Rattle.std.proofs.Common.{ap, sym, ◌∙◌}
use Rattle.std.specs.List.{concat}
use Rattle.ivy_pagetable.proofs.Regions.{pages_joined}
use Rattle.ivy_pagetable.proofs.node_table.PageTable.bytes.Goals as goal

pub returns : goal.returns
returns g c =
    c.deref.ensures.value
    ∙ sym (pages_joined c.self.inside.page_size _ c.self.inside.region.items c.self.invariant)
    ∙ ap (λ t. concat t.pages) c.self.view_is
