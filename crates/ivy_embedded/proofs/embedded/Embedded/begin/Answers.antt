use Rattle.std.proofs.Common.{None, Some, subst}
use Rattle.ivy_embedded.specs.Exports.{AfterBegin}
use Rattle.ivy_embedded.proofs.Kept.{free_inside, may_inside}
use Rattle.ivy_embedded.proofs.Lenders.{begun_none_lender, begun_some_lender, known}
use Rattle.ivy_embedded.proofs.embedded.Embedded.begin.Goals as goal

pub invariant_of-self : goal.invariant_of-self
invariant_of-self c = (
  c.begin.ensures.counted,
  begun_some_lender c.self.inside.site c.self.inside.lendings c.self.inside.waits_at
      c.self.invariant.1 (known _ c.sound.ensures.site c.sound.ensures.memory) c.args.call
      c.in-Ok-Some.reply c.begin.new.site c.in-Ok-Some.ensures.free
      (subst (λ o. AfterBegin c.args.call o c.self.inside.site c.begin.new.site)
      c.in-Ok-Some.field-0-is c.in-Ok-Some.ensures.done),
)

pub invariant_of-self-in-Ok-None : goal.invariant_of-self-in-Ok-None
invariant_of-self-in-Ok-None c = (
  c.begin.ensures.counted,
  begun_none_lender c.self.inside.site c.self.inside.lendings c.self.inside.waits_at
      c.self.invariant.1 (known _ c.sound.ensures.site c.sound.ensures.memory) c.args.call
      c.begin.new.site c.in-Ok-None.ensures.free c.requires.width
      (may_inside _ c.args.self.now c.self.view_is c.args.call
      (c.requires.may (free_inside _ c.args.self.now c.self.view_is c.in-Ok-None.ensures.free)))
      (subst (λ o. AfterBegin c.args.call o c.self.inside.site c.begin.new.site)
      c.in-Ok-None.field-0-is c.in-Ok-None.ensures.done)
      c.page_called-self-inside.result c.page_called-self-inside.ensures,
)
