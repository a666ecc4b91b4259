use Rattle.std.proofs.Common.{None, arith, subst, ◌≡◌, ◌∙◌}
use Rattle.ivy_link.specs.stated.LinkLimits.{most_ahead}
use Rattle.ivy_site.specs.Inside.{AfterOnce}
use Rattle.ivy_site.proofs.Receiving.{WentSoOften, went_more, went_to_end, went_all, went_to_refusal}
use Rattle.ivy_site.proofs.site.Site.go_on.Goals as goal

pub loop-preserved : goal.loop-preserved
loop-preserved g c = record {
  same = (
    c.in-Ok-Some.ensures.same.0 ∙ c.loop.invariant.same.0,
    c.in-Ok-Some.ensures.same.1 ∙ c.loop.invariant.same.1,
    c.in-Ok-Some.ensures.same.2 ∙ c.loop.invariant.same.2,
    c.in-Ok-Some.ensures.same.3 ∙ c.loop.invariant.same.3,
  );
  on = went_more c.args.from c.loop.counter c.in-Ok-Some.string c.args.self.now c.loop.self
      c.go_on_with.new.self c.loop.invariant.on
      (subst (λ o. AfterOnce o c.args.from c.loop.self c.go_on_with.new.self)
      c.in-Ok-Some.field-0-is c.in-Ok-Some.ensures.done);
  few = let before = c.loop.invariant.few in let now = c.in-Ok-Some.ensures.few in
      omega (arith, before, now);
}

pub returns-in-Ok-None-clause-done : goal.returns-in-Ok-None-clause-done
returns-in-Ok-None-clause-done g c =
    let none : AfterOnce None c.args.from c.loop.self c.go_on_with.new.self =
    subst (λ o. AfterOnce o c.args.from c.loop.self c.go_on_with.new.self)
    c.in-Ok-None.field-0-is c.in-Ok-None.ensures.done in
    went_to_end c.args.from c.loop.counter c.args.self.now c.loop.self c.go_on_with.new.self
    c.loop.invariant.on none.1 none.0

pub returns-in-Err-clause-done : goal.returns-in-Err-clause-done
returns-in-Err-clause-done g c =
    went_to_refusal c.args.from c.loop.counter c.args.self.now c.loop.self c.go_on_with.new.self
    c.in-Err.fault c.loop.invariant.on c.in-Err.ensures.done c.in-Err.ensures.want

pub returns-clause-done : goal.returns-clause-done
returns-clause-done g c =
    let all : c.loop.counter ≡ most_ahead = omega (arith, c.loop-test.false, c.loop.auto.counter-end) in
    went_all c.args.from c.args.self.now c.loop.self
    (subst (λ n. WentSoOften c.args.from n c.args.self.now c.loop.self) all c.loop.invariant.on)
