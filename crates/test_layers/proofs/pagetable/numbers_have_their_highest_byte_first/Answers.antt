use Rattle.std.proofs.Common.{◌≡◌, ◌∙◌, refl, ap, sym, subst, arith}
use Rattle.ivy_pagetable.specs.stated.Words.{IsWord}
use Rattle.test_layers.proofs.pagetable.numbers_have_their_highest_byte_first.Goals as goal

pub carry_out-requires-2-clause-word : goal.carry_out-requires-2-clause-word
carry_out-requires-2-clause-word g c =
    let size : c.carry_out.new.self.page_size ≡ 128 =
    ap (λ t. t.page_size) c.carry_out.ensures.bytes
    ∙ ap (λ t. t.page_size) c.in_ok-table.ensures.first in
    subst (λ n. IsWord n _) (sym size)
    (record { width = (1, omega arith, refl); aligned = refl; within = omega arith })

pub carry_out-requires-3-clause-word : goal.carry_out-requires-3-clause-word
carry_out-requires-3-clause-word g c =
    let first : c.carry_out.new.self.page_size ≡ 128 =
    ap (λ t. t.page_size) c.carry_out.ensures.bytes
    ∙ ap (λ t. t.page_size) c.in_ok-table.ensures.first in
    let size : c.carry_out-2.new.self.page_size ≡ 128 =
    ap (λ t. t.page_size) c.carry_out-2.ensures.bytes ∙ first in
    subst (λ n. IsWord n _) (sym size)
    (record { width = (1, omega arith, refl); aligned = refl; within = omega arith })
