use Rattle.std.proofs.Common.{◌≡◌, ◌*◌, replicate, rules}
use Rattle.ivy_pagetable.specs.stated.Tables.{first_entry}
use Rattle.ivy_pagetable.proofs.Regions.{first_region}
use Rattle.ivy_pagetable.proofs.node_table.PageTable.new.Goals as goal

pub returns-clause-first : goal.returns-clause-first
returns-clause-first g c =
    let config = c.args.config.now in
    let entries : c.in_ok-entries.entries.items ≡ replicate config.pages (first_entry c.args.me) =
    search rules in
    let region : c.in_ok-vec.field-0.items ≡ replicate (config.pages * config.page_size) 0 =
    search rules in
    first_region config.page_size config.pages (first_entry c.args.me) _ _ entries region
