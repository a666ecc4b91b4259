use Rattle.std.proofs.Common.{subst, sym}
use Rattle.ivy_embedded.specs.Nodes.{Embedded}
use Rattle.ivy_embedded.proofs.Delivering.{TakesNone}
use Rattle.ivy_embedded.proofs.Lenders.{known, not_wanted}
use Rattle.ivy_embedded.proofs.Strings.{went_kept}
use Rattle.ivy_embedded.proofs.embedded.Embedded.go_on_once.Goals as goal

pub invariant_of-self : goal.invariant_of-self
invariant_of-self c =
    let none = subst (λ (e : Embedded). TakesNone e.lent e.site c.bytes.result.now)
    (sym c.self.view_is) (not_wanted c.args.self.now c.bytes.result.now c.in-None.ensures) in
    went_kept c.self.inside.site c.go_on_with.new.self c.self.inside.lendings
    c.self.inside.waits_at c.self.inside.turns c.self.invariant
    (known _ c.sound.ensures.site c.sound.ensures.memory) c.go_on_with.result
    c.in-Some.string.now c.args.from c.in-Some.ensures
    (subst (TakesNone c.self.inside.lendings c.self.inside.site) c.bytes.ensures none)
    c.go_on_with.ensures.done
