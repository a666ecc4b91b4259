use Rattle.std.proofs.Common.{ℕ, ◌+◌, ◌-◌, ◌*◌, Some, sym, ap, ◌∙◌, arith}
use Rattle.ivy_model.specs.Rows.{record_in}
use Rattle.ivy_model.proofs.Rows.{row_at}
use Rattle.ivy_model.proofs.row.Row.last.Goals as goal

pub returns : goal.returns
returns c =
    ap Some (c.record.ensures
    ∙ ap (λ (n : ℕ). record_in c.args.self c.args.node (c.args.addr + 8 * (c.args.words - 1)) n)
    c.number_at-number.ensures)
    ∙ sym (row_at c.args.self c.args.node c.args.addr (c.args.words - 1) c.args.words c.args.bytes.now
    (omega (arith, c.if-words-eq0.false)))
