use Rattle.std.proofs.Common.{◌≡◌, ◌∙◌, refl, ap, sym, subst, arith}
use Rattle.ivy_pagetable.specs.stated.Words.{IsWord}
use Rattle.test_layers.proofs.pagetable.number_of_a_word.Goals as goal

pub number-requires-clause-word : goal.number-requires-clause-word
number-requires-clause-word g c =
    let size : c.install.new.self.page_size ≡ 128 =
    ap (λ t. t.page_size) c.install.ensures
    ∙ ap (λ t. t.page_size) c.in_ok-table.ensures.first in
    subst (λ n. IsWord n _) (sym size)
    (record { width = (1, omega arith, refl); aligned = refl; within = omega arith })
