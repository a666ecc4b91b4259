use Rattle.std.proofs.Common.{rules, ◌≡◌, ◌∷◌, [], length, map, refl, sym, ap, subst, ◌∙◌, arith}
use Rattle.std.proofs.lemmas.List.{length-map, map-append}
use Rattle.std.proofs.lemmas.List.Elements.{All-nil, All-push}
use Rattle.std.proofs.lemmas.Result.{IfOk-from_err, err_from_is_err_and}
use Rattle.std.specs.Vec.Iter.{into_iter_items}
use Rattle.ivy_standstill.specs.SoFar.{NodeSoFar, so_far_of, AllKeepSoFar}
use Rattle.ivy_standstill.specs.CollectedSoFar.{AreToldSoFar}
use Rattle.ivy_standstill.proofs.Telling.{told_more, told_none}
use Rattle.ivy_scope.proofs.watched.close.close_all.Goals as goal

pub loop-seat-init : goal.loop-seat-init
loop-seat-init g c =
    let gives = c.into_iter-seat-iterator.ensures.into_iter_gives in
    let long = ap length gives.0 in
    let none = c.in_ok-sites.ensures.items in record {
      can = tt;
      finite = tt;
      left = search rules;
      room = search rules;
      ether = c.requires.starter;
      count = ap length (sym none);
      told = told_none g.S.Setup.config g.S.Setup.opened g.S.Setup.programs c.args.starter.now.known
          (map so_far_of c.in_ok-sites.sites.items) (ap (map so_far_of) none);
      kept = subst (AllKeepSoFar c.args.keep) (sym (ap (map so_far_of) none))
          (All-nil (λ (n : NodeSoFar). n.keep ≡ c.args.keep));
    }

pub loop-seat-preserved : goal.loop-seat-preserved
loop-seat-preserved g c =
    let at = c.loop-seat in
    let was = at.invariant.left in
    let steps : into_iter_items at.seat-iterator
    ≡ c.in-Some.seat ∷ into_iter_items c.next.new.self = c.in-Some.ensures.steps.0 in
    let gone = c.in-Some.ensures.steps.1 in
    let short = ap length steps in
    let count = at.invariant.count in
    let room = at.invariant.room in record {
      can = tt;
      finite = tt;
      left = omega arith;
      room = let len = c.push_reserved.ensures.len in let cap = c.push_reserved.ensures.capacity in
          omega (arith, len, cap, room, short);
      ether = c.in_ok-site.ensures.ether ∙ at.invariant.ether;
      count = search rules;
      told = told_more g.S.Setup.config g.S.Setup.opened g.S.Setup.programs _ _ (map so_far_of at.sites.items) _
          (so_far_of c.in_ok-site.site) at.node
          (count ∙ sym (length-map at.sites.items so_far_of))
          (ap (map so_far_of) c.push_reserved.ensures.items
          ∙ map-append so_far_of at.sites.items (c.in_ok-site.site ∷ []))
          c.in_ok-site.ensures.told at.invariant.told;
      kept = subst (AllKeepSoFar c.args.keep)
          (sym (ap (map so_far_of) c.push_reserved.ensures.items
          ∙ map-append so_far_of at.sites.items (c.in_ok-site.site ∷ [])))
          (All-push (λ (n : NodeSoFar). n.keep ≡ c.args.keep) (map so_far_of at.sites.items)
          (so_far_of c.in_ok-site.site) at.invariant.kept c.in_ok-site.ensures.keep);
    }

pub returns-in_err-site-clause-starter : goal.returns-in_err-site-clause-starter
returns-in_err-site-clause-starter g c =
    c.in_err-site.ensures.ether ∙ (c.loop-seat.invariant.ether ∙ sym c.requires.starter)

pub returns-in_default-clause-starter : goal.returns-in_default-clause-starter
returns-in_default-clause-starter g c =
    c.in_ok-site.ensures.ether ∙ (c.loop-seat.invariant.ether ∙ sym c.requires.starter)

pub returns-clause-told : goal.returns-clause-told
returns-clause-told g c =
    subst (AreToldSoFar g.S.Setup.config g.S.Setup.opened g.S.Setup.programs c.loop-seat.starter.known)
    (sym c.new.ensures) c.loop-seat.invariant.told

pub returns-clause-keep : goal.returns-clause-keep
returns-clause-keep g c =
    subst (AllKeepSoFar c.args.keep) (sym c.new.ensures) c.loop-seat.invariant.kept

pub close_one-requires-clause-home : goal.close_one-requires-clause-home
close_one-requires-clause-home g c = c.requires.home

pub close_one-requires-clause-starter : goal.close_one-requires-clause-starter
close_one-requires-clause-starter g c = c.loop-seat.invariant.ether

pub push_reserved-requires : goal.push_reserved-requires
push_reserved-requires g c =
    let steps : into_iter_items c.loop-seat.seat-iterator
    ≡ c.in-Some.seat ∷ into_iter_items c.next.new.self = c.in-Some.ensures.steps.0 in
    let short = ap length steps in let room = c.loop-seat.invariant.room in omega (arith, short, room)

pub returns-in_err-sites-clause-starter : goal.returns-in_err-sites-clause-starter
returns-in_err-sites-clause-starter g c = refl

pub returns-in_err-sites-clause-told : goal.returns-in_err-sites-clause-told
returns-in_err-sites-clause-told g c = IfOk-from_err c.from_residual.result _ c.from_residual.ensures.0

pub returns-in_err-sites-clause-keep : goal.returns-in_err-sites-clause-keep
returns-in_err-sites-clause-keep g c = IfOk-from_err c.from_residual.result _ c.from_residual.ensures.0

pub returns-in_err-sites-clause-stop : goal.returns-in_err-sites-clause-stop
returns-in_err-sites-clause-stop g c =
    let p = err_from_is_err_and c.from_residual.result c.from_residual.ensures.1 in rw (p.1, p.2) refl

pub returns-in_err-site-clause-told : goal.returns-in_err-site-clause-told
returns-in_err-site-clause-told g c = IfOk-from_err c.from_residual-in_err-site.result _ c.from_residual-in_err-site.ensures.0

pub returns-in_err-site-clause-keep : goal.returns-in_err-site-clause-keep
returns-in_err-site-clause-keep g c = IfOk-from_err c.from_residual-in_err-site.result _ c.from_residual-in_err-site.ensures.0

pub returns-in_err-site-clause-stop : goal.returns-in_err-site-clause-stop
returns-in_err-site-clause-stop g c =
    let p = err_from_is_err_and c.from_residual-in_err-site.result c.from_residual-in_err-site.ensures.1 in rw (p.1, p.2) c.in_err-site.ensures.stop

pub returns-in_default-clause-told : goal.returns-in_default-clause-told
returns-in_default-clause-told g c = tt

pub returns-in_default-clause-keep : goal.returns-in_default-clause-keep
returns-in_default-clause-keep g c = tt

pub returns-in_default-clause-stop : goal.returns-in_default-clause-stop
returns-in_default-clause-stop g c = refl

pub returns-clause-starter : goal.returns-clause-starter
returns-clause-starter g c = c.loop-seat.invariant.ether ∙ sym c.requires.starter

pub returns-clause-stop : goal.returns-clause-stop
returns-clause-stop g c = tt
