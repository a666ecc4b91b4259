use Rattle.std.proofs.Common.{refl, sym, ◌∙◌}
use Rattle.ivy_pagetable.proofs.NodeSets.{not_empty}
use Rattle.ivy_pagetable.proofs.idle.Idle.with_reader.Goals as goal

pub invariant_of-result : goal.invariant_of-result
invariant_of-result c = record {
  owned = λ _ e. cc;
  written = λ _. refl;
  alone = λ e. cc;
  shared = λ _ _ e. not_empty c.self.inside.copies c.args.node (sym c.insert.ensures ∙ e);
  nobody = λ e. cc;
}
