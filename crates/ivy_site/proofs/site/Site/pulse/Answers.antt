use Rattle.std.proofs.Common.{refl, ◌∙◌}
use Rattle.ivy_site.proofs.Pulsing.{pulse_made, pulse_none, pulsed_site, not_made}
use Rattle.ivy_site.proofs.site.Site.pulse.Goals as goal

pub returns-then-branch-clause-done : goal.returns-then-branch-clause-done
returns-then-branch-clause-done g c =
    pulse_made _ _ c.self.view_is c.args.to c.pulse.new.self _ _ c.in_ok-pulse.ensures.ok
    (c.in_ok-pulse.ensures.made.0 c.if-branch.true) c.in_ok-reserve.ensures.same
    c.push_pulse.ensures.marks

pub returns-else-branch-clause-done : goal.returns-else-branch-clause-done
returns-else-branch-clause-done g c =
    pulse_none _ _ c.self.view_is c.args.to c.pulse.new.self _ c.in_ok-pulse.ensures.ok
    (not_made c.in_ok-pulse.field-0 c.if-branch.false c.in_ok-pulse.ensures.made.1)
    c.in_ok-reserve.ensures.same

pub invariant_of-self-then-branch : goal.invariant_of-self-then-branch
invariant_of-self-then-branch g c = (
  pulsed_site _ c.self.invariant.0 c.args.to _
      (pulse_made _ _ refl c.args.to c.pulse.new.self _ _ c.in_ok-pulse.ensures.ok
      (c.in_ok-pulse.ensures.made.0 c.if-branch.true) c.in_ok-reserve.ensures.same
      c.push_pulse.ensures.marks),
  (
    c.self.invariant.1.0,
    c.push_pulse.ensures.kept ∙ c.in_ok-reserve.ensures.kept ∙ c.self.invariant.1.1,
  ),
)

pub invariant_of-self-else-branch : goal.invariant_of-self-else-branch
invariant_of-self-else-branch g c = (
  pulsed_site _ c.self.invariant.0 c.args.to _
      (pulse_none _ _ refl c.args.to c.pulse.new.self _ c.in_ok-pulse.ensures.ok
      (not_made c.in_ok-pulse.field-0 c.if-branch.false c.in_ok-pulse.ensures.made.1)
      c.in_ok-reserve.ensures.same),
  (
    c.self.invariant.1.0,
    c.in_ok-reserve.ensures.kept ∙ c.self.invariant.1.1,
  ),
)
