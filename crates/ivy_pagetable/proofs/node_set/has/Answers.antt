use Rattle.std.proofs.Common.{eqb, sym, ap, ◌∙◌, arith}
use Rattle.std.proofs.lemmas.Nat.Bits.{shr_and_one}
use Rattle.ivy_pagetable.specs.Bits.{contains_with}
use Rattle.ivy_pagetable.proofs.node_set.has.Goals as goal

pub returns : goal.returns
returns c =
    ap (λ x. eqb x 1) (shr_and_one c.args.bits c.args.node)
    ∙ sym (contains_with c.args.bits c.args.node (omega arith))
