use Rattle.std.proofs.Common.{◌+◌, ◌++◌, [], ◌∷◌, refl, sym, ap, ◌∙◌, inl, inr, arith, append-nil, append_assoc}
use Rattle.std.proofs.lemmas.List.{length-append}
use Rattle.ivy_ether.specs.Held.{Held}
use Rattle.ivy_seating.proofs.seated.Seated.drain.Goals as goal

pub loop-init : goal.loop-init
loop-init g c = (refl, refl, ([], sym (append-nil c.args.self.now.pass.known.items), refl, refl))

pub loop-preserved : goal.loop-preserved
loop-preserved g c =
    let at = c.loop.invariant in
    let items = at.2.0 in
    let x = c.in-Some.field-0 in (
      c.take_item.ensures.ether ∙ at.0,
      c.in-Some.ensures.site ∙ at.1,
      (
        items ++ x ∷ [],
        ap (λ (p : Held). p.known.items) c.in-Some.ensures.pass
            ∙ ap (λ l. l ++ x ∷ []) at.2.1
            ∙ append_assoc c.args.self.now.pass.known.items items (x ∷ []),
        length-append items (x ∷ []) ∙ ap (λ n. n + 1) at.2.2,
        ap (λ (p : Held). p.known.empty) c.in-Some.ensures.pass ∙ at.2.3,
      ),
    )

pub returns-in_default-clause-done : goal.returns-in_default-clause-done
returns-in_default-clause-done g c =
    let at = c.loop.invariant in
    let count = at.2.2 in record {
      items = at.2.0;
      took = ap (λ (p : Held). p.known.items) c.in_default.ensures.pass ∙ at.2.1;
      few = omega (arith, count, c.loop-test.true);
      all = inr (ap (λ (p : Held). p.known.empty) c.in_default.ensures.pass
          ∙ ap (λ n. n + 1) at.2.3);
    }

pub returns-clause-done : goal.returns-clause-done
returns-clause-done g c =
    let at = c.loop.invariant in
    let count = at.2.2 in record {
      items = at.2.0;
      took = at.2.1;
      few = omega (arith, count, c.loop-test.false);
      all = inl (omega (arith, count, c.loop-test.false));
    }
