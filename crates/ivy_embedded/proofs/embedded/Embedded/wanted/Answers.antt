use Rattle.std.proofs.Common.{rules, ◌≡◌, false, subst, sym, ap, ◌∙◌}
use Rattle.ivy_embedded.specs.declared.lending.Want.{Want}
use Rattle.ivy_embedded.specs.Lending.{IsWanted, is_more, left_for}
use Rattle.ivy_embedded.specs.Nodes.{Embedded}
use Rattle.ivy_embedded.proofs.Lenders.{known}
use Rattle.ivy_embedded.proofs.Wanting.{enough_not_wanted}
use Rattle.ivy_embedded.proofs.embedded.Embedded.wanted.Goals as goal

pub returns-then-not-is_more : goal.returns-then-not-is_more
returns-then-not-is_more c =
    let enough : is_more c.at.result c.left_for-on.result ≡ false = search rules in
    let k = known _ c.sound.ensures.site c.sound.ensures.memory in
    subst (λ (e : Embedded). (want : Want) → IsWanted e c.args.bytes.now want → ⊥) c.self.view_is
    (enough_not_wanted _ c.args.bytes.now c.in-Some.left k.limits c.in-Some.ensures
    (ap (λ l. is_more l (left_for c.in-Some.left.access)) (sym c.at.ensures.is)
    ∙ (ap (is_more c.at.result) (sym c.left_for-on.ensures) ∙ enough)))

pub returns-in-None : goal.returns-in-None
returns-in-None c =
    subst (λ (e : Embedded). (want : Want) → IsWanted e c.args.bytes.now want → ⊥) c.self.view_is
    (λ want is. c.in-None.ensures is.left is.leaves)
