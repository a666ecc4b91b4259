use Rattle.std.proofs.Common.{◌≡◌, ◌+◌, ◌-◌, ◌*◌, ◌≤◌, ◌∙◌, List, ℕ, length, take, drop, arith, ap, sym, subst}
use Rattle.ivy_model.specs.declared.Row.TheVariants.{Loads}
use Rattle.ivy_model.specs.Rows.{numbers_in}
use Rattle.ivy_model.specs.stated.Serves.{overwrite}
use Rattle.ivy_pagetable.specs.WordRows.{AreCarried}
use Rattle.ivy_pagetable.proofs.RowsCarried.{loads, loaded}
use Rattle.ivy_pagetable.proofs.node_table.NodeTable.load_row.Goals as goal

pub returns-clause-carried : goal.returns-clause-carried
returns-clause-carried g c =
    let words : ℕ = c.row_len-words.result in
    let bytes : List ℕ = c.page-bytes.result.now in
    let within : c.args.offset + 8 * words ≤ length bytes = c.row_len-words.ensures.within in
    let count : c.args.offset + 8 * words - c.args.offset ≡ 8 * words = omega arith in
    let put : c.put.new.into ≡ overwrite c.args.into.now 0 (take (8 * words) (drop c.args.offset bytes)) =
    c.put.ensures
    ∙ ap (λ k. overwrite c.args.into.now 0 (take k (drop c.args.offset bytes))) count in
    let numbers : numbers_in words c.put.new.into ≡ numbers_in words (drop c.args.offset bytes) =
    ap (numbers_in words) put
    ∙ loaded words c.args.offset bytes c.args.into.now within c.row_len-words.ensures.fits in
    subst (λ b. AreCarried Loads c.args.offset (numbers_in words c.put.new.into) b b)
    c.page-bytes.ensures.bytes
    (subst (λ ns. AreCarried Loads c.args.offset ns bytes bytes) (sym numbers)
    (loads words c.args.offset bytes c.requires.aligned within))
