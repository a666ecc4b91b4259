use Rattle.std.proofs.Common.{None, Some, subst}
use Rattle.ivy_embedded.specs.Exports.{AfterBegin}
use Rattle.ivy_embedded.proofs.Kept.{inside_free, may_inside}
use Rattle.ivy_embedded.proofs.Lenders.{begun_none_lender, begun_some_lender, known}
use Rattle.ivy_embedded.proofs.embedded.Embedded.begin_ready.Goals as goal

pub invariant_of-self : goal.invariant_of-self
invariant_of-self c = (
  c.begin_in_place.ensures.counted,
  begun_some_lender c.self.inside.site c.self.inside.lendings c.self.inside.waits_at
      c.self.invariant.1 (known _ c.sound.ensures.site c.sound.ensures.memory) c.args.asked
      c.in-Ok-Some.reply c.begin_in_place.new.site
      (inside_free _ c.args.self.now c.self.view_is c.requires.free)
      (subst (λ o. AfterBegin c.args.asked o c.self.inside.site c.begin_in_place.new.site)
      c.in-Ok-Some.field-0-is c.in-Ok-Some.ensures.done),
)

pub invariant_of-self-in-Ok-None : goal.invariant_of-self-in-Ok-None
invariant_of-self-in-Ok-None c = (
  c.begin_in_place.ensures.counted,
  begun_none_lender c.self.inside.site c.self.inside.lendings c.self.inside.waits_at
      c.self.invariant.1 (known _ c.sound.ensures.site c.sound.ensures.memory) c.args.asked
      c.begin_in_place.new.site (inside_free _ c.args.self.now c.self.view_is c.requires.free)
      c.requires.width (may_inside _ c.args.self.now c.self.view_is c.args.asked c.requires.may)
      (subst (λ o. AfterBegin c.args.asked o c.self.inside.site c.begin_in_place.new.site)
      c.in-Ok-None.field-0-is c.in-Ok-None.ensures.done)
      c.page_called-self-inside.result c.page_called-self-inside.ensures,
)
