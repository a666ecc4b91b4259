use Rattle.std.proofs.Common.{◌≡◌, ◌<◌, ◌∙◌, All, length, arith, ap, rules, sym}
use Rattle.std.proofs.lemmas.List.Elements.{All-from_get_or}
use Rattle.ivy_pagetable.specs.stated.Tables.{page_at}
use Rattle.ivy_pagetable.proofs.RowsCarried.{no_row, no_words, stores}
use Rattle.ivy_pagetable.proofs.node_table.NodeTable.store_row.Goals as goal

pub returns-then-not-put-clause-carried : goal.returns-then-not-put-clause-carried
returns-then-not-put-clause-carried g c =
    no_row c.args.offset (page_at c.args.self.now c.args.page) c.args.from.now

pub returns-then-not-put-clause-bytes : goal.returns-then-not-put-clause-bytes
returns-then-not-put-clause-bytes g c =
    let kept : c.put.new.self ≡ c.args.self.now = search rules in
    kept ∙ no_words c.args.self.now c.args.page c.args.offset c.args.from.now

pub returns-clause-carried : goal.returns-clause-carried
returns-clause-carried g c =
    let all : All (λ b. b < 256) c.args.from.now =
    All-from_get_or (λ b. b < 256) c.args.from.now 0 (λ i lt. omega (arith, c.type_inv.from i)) in
    let long : length (page_at c.args.self.now c.args.page) ≡ length c.page.result.now =
    ap length (sym c.page.ensures.bytes) in
    stores c.row_len-words.result c.args.offset (page_at c.args.self.now c.args.page)
    c.args.from.now c.requires.aligned (omega (arith, long, c.row_len-words.ensures.within))
    c.row_len-words.ensures.fits all
