use Rattle.std.proofs.Common.{rules, ◌≡◌, ◌∷◌, suc, length, slice_get, Some, sym, ap, subst, ◌∙◌, arith}
use Rattle.std.proofs.lemmas.List.Elements.{All-pop}
use Rattle.std.specs.Vec.Iter.{into_iter_items}
use Rattle.ivy_ether.specs.Rule.{times}
use Rattle.ivy_ether.specs.Views.{View}
use Rattle.ivy_ether.specs.EtherViews.{IsNewcomer}
use Rattle.ivy_seating.proofs.Collected.{issued_more}
use Rattle.ivy_seating.proofs.seating.seat_all.Goals as goal

pub loop-program-init : goal.loop-program-init
loop-program-init g c =
    let gives = c.into_iter-program-iterator.ensures.into_iter_gives in
    let all = gives.0 ∙ c.requires.programs in record {
      can = search rules;
      finite = search rules;
      left = search rules;
      count = (let long = ap length all in omega (arith, long));
      there = λ k p is. subst (λ j. slice_get g.S.Setup.programs j ≡ Some p) (omega arith)
          (subst (λ l. slice_get l k ≡ Some p) all is);
      ether = c.requires.starter.0;
      starts = ap (λ (v : View). v.starts) c.requires.starter.1;
      issued = λ j le. ap (λ (v : View). times j v.issued) c.requires.starter.1;
      passes = c.requires.passes;
      seated = search rules;
      enough = c.requires.enough ∙ ap length (sym gives.0);
    }

pub seat_one-requires-clause-there : goal.seat_one-requires-clause-there
seat_one-requires-clause-there g c =
    let at = c.loop-program in
    let steps : into_iter_items at.program-iterator
    ≡ c.in-Some.program ∷ into_iter_items c.next.new.self = c.in-Some.ensures.steps.0 in
    subst (λ j. slice_get g.S.Setup.programs j ≡ Some c.in-Some.program) (omega arith)
    (at.invariant.there 0 c.in-Some.program (ap (λ l. slice_get l 0) steps))

pub seat_one-requires-clause-pass : goal.seat_one-requires-clause-pass
seat_one-requires-clause-pass g c =
    (All-pop (IsNewcomer c.args.ether.now) _ _ (Some c.in-Some-pop.pass) c.in-Some-pop.ensures.items
    c.loop-program.invariant.passes).1

pub loop-program-preserved : goal.loop-program-preserved
loop-program-preserved g c =
    let at = c.loop-program in
    let was = at.invariant.left in
    let steps : into_iter_items at.program-iterator
    ≡ c.in-Some.program ∷ into_iter_items c.next.new.self = c.in-Some.ensures.steps.0 in
    let gone = c.in-Some.ensures.steps.1 in
    let short = ap length steps in
    let count = at.invariant.count in
    let enough = at.invariant.enough in
    let less = c.in-Some-pop.ensures.cases in record {
      can = search rules;
      finite = search rules;
      left = omega arith;
      count = omega arith;
      there = λ k p is. subst (λ j. slice_get g.S.Setup.programs j ≡ Some p) (omega arith)
          (at.invariant.there (suc k) p (ap (λ l. slice_get l (suc k)) steps ∙ is));
      ether = c.in_ok-seated.ensures.starter ∙ at.invariant.ether;
      starts = ap (λ (v : View). v.starts) c.in_ok-seated.ensures.issued ∙ at.invariant.starts;
      issued = issued_more _ _ at.node c.in_ok-seated.ensures.issued at.invariant.issued;
      passes = (All-pop (IsNewcomer c.args.ether.now) _ _ (Some c.in-Some-pop.pass)
          c.in-Some-pop.ensures.items at.invariant.passes).0;
      seated = omega arith;
      enough = omega arith;
    }

pub seat_one-requires-clause-new : goal.seat_one-requires-clause-new
seat_one-requires-clause-new g c = c.loop-program.invariant.issued c.loop-program.node (omega arith)

pub returns-in_err-seated-clause-starter : goal.returns-in_err-seated-clause-starter
returns-in_err-seated-clause-starter g c =
    c.in_err-seated.ensures.starter ∙ (c.loop-program.invariant.ether ∙ sym c.requires.starter.0)
