use Rattle.std.proofs.Common.{rules, ◌≡◌, ◌≢◌, refl, subst, sym}
use Rattle.ivy_link.specs.declared.Verdict.TheVariants as verdict
use Rattle.ivy_site.specs.Sites.{AfterDelivery}
use Rattle.ivy_embedded.specs.Lends.{DeliversFar}
use Rattle.ivy_embedded.specs.Nodes.{Embedded}
use Rattle.ivy_embedded.proofs.Delivering.{TakesNone}
use Rattle.ivy_embedded.proofs.Lenders.{known, not_wanted}
use Rattle.ivy_embedded.proofs.Onward.{far_next, far_rests, rests_delivery, went_delivery}
use Rattle.ivy_embedded.proofs.Strings.{received_kept}
use Rattle.ivy_embedded.proofs.embedded.Embedded.deliver_past.Goals as goal

pub invariant_of-self-then-ne : goal.invariant_of-self-then-ne
invariant_of-self-then-ne c =
    received_kept c.self.inside.site c.deliver_once.new.self c.self.inside.lendings
    c.self.inside.waits_at c.self.inside.turns c.self.invariant
    (known _ c.sound.ensures.site c.sound.ensures.memory) c.args.bytes.now c.in_ok-verdict.verdict
    c.in_ok-verdict.from
    (subst (λ (e : Embedded). TakesNone e.lent e.site c.args.bytes.now) (sym c.self.view_is)
    (not_wanted c.args.self.now c.args.bytes.now c.requires)) c.in_ok-verdict.ensures.done

pub invariant_of-self-2 : goal.invariant_of-self-2
invariant_of-self-2 c =
    received_kept c.self.inside.site c.deliver_once.new.self c.self.inside.lendings
    c.self.inside.waits_at c.self.inside.turns c.self.invariant
    (known _ c.sound.ensures.site c.sound.ensures.memory) c.args.bytes.now c.in_ok-verdict.verdict
    c.in_ok-verdict.from
    (subst (λ (e : Embedded). TakesNone e.lent e.site c.args.bytes.now) (sym c.self.view_is)
    (not_wanted c.args.self.now c.args.bytes.now c.requires)) c.in_ok-verdict.ensures.done

pub returns-then-ne-clause-done : goal.returns-then-ne-clause-done
returns-then-ne-clause-done c =
    let other : c.in_ok-verdict.verdict ≢ verdict.Next = search rules in
    subst (λ (e : Embedded). (c.self.inside.first ≡ e.first)
    × AfterDelivery c.args.bytes.now c.in_ok-verdict.verdict e.site c.deliver_once.new.self
    × (c.self.inside.lendings ≡ e.lent)) c.self.view_is (
      refl,
      rests_delivery c.args.bytes.now c.in_ok-verdict.verdict c.in_ok-verdict.from
          c.self.inside.site c.deliver_once.new.self other c.in_ok-verdict.ensures.done,
      refl,
    )

pub returns-clause-done : goal.returns-clause-done
returns-clause-done c =
    let next : c.in_ok-verdict.verdict ≡ verdict.Next = search rules in
    let went = c.go_on.ensures.done in
    subst (λ (e : Embedded). (c.go_on.new.self.first ≡ e.first)
    × AfterDelivery c.args.bytes.now c.in_ok-verdict.verdict e.site c.go_on.new.self.site
    × (c.go_on.new.self.lent ≡ e.lent)) c.self.view_is (
      went.on.0,
      went_delivery c.args.bytes.now c.in_ok-verdict.verdict c.in_ok-verdict.from
          c.self.inside.site c.deliver_once.new.self c.go_on.new.self.site went.more next
          c.in_ok-verdict.ensures.done went.on.1,
      went.on.2,
    )

pub returns-then-ne-clause-far : goal.returns-then-ne-clause-far
returns-then-ne-clause-far c =
    let other : c.in_ok-verdict.verdict ≢ verdict.Next = search rules in
    subst (λ (e : Embedded). DeliversFar c.args.bytes.now c.in_ok-verdict.verdict e (record {
      site = c.deliver_once.new.self;
      first = c.self.inside.first;
      lent = c.self.inside.lendings;
    })) c.self.view_is
    (far_rests c.args.bytes.now c.in_ok-verdict.verdict c.in_ok-verdict.from _ _
    c.deliver_once.new.self c.in_ok-verdict.ensures.done other)

pub returns-clause-far : goal.returns-clause-far
returns-clause-far c =
    let next : c.in_ok-verdict.verdict ≡ verdict.Next = search rules in
    subst (λ (e : Embedded). DeliversFar c.args.bytes.now c.in_ok-verdict.verdict e c.go_on.new.self)
    c.self.view_is
    (far_next c.args.bytes.now c.in_ok-verdict.verdict c.in_ok-verdict.from _ c.go_on.new.self
    c.deliver_once.new.self c.go_on.result c.in_ok-verdict.ensures.done c.go_on.ensures.done next)
