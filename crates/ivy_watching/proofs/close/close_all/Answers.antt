use Rattle.std.proofs.Common.{rules, arith, ◌≡◌, ◌+◌, length, map, vec_len, [], ◌∷◌, ◌++◌, sym, ap, subst, ◌∙◌}
use Rattle.std.specs.Prelude.{MatchResult}
use Rattle.std.proofs.lemmas.List.{length-map, map-append}
use Rattle.std.proofs.lemmas.List.Elements.{All-nil, All-push}
use Rattle.std.specs.Vec.Iter.{into_iter_len}
use Rattle.ivy_own.specs.Ended.{HasEnded}
use Rattle.ivy_own.specs.Faults.{StopsFor}
use Rattle.ivy_own.proofs.Each.{left_all, left_first, left_more}
use Rattle.ivy_standstill.specs.SoFar.{NodeSoFar, so_far_of, AllKeepSoFar}
use Rattle.ivy_standstill.proofs.Telling.{told_more, told_none}
use Rattle.ivy_watching.specs.Standings.{AllStand, Stands}
use Rattle.ivy_watching.proofs.Standing.{stand_more, stand_none}
use Rattle.ivy_watching.proofs.close.close_all.Goals as goal

pub loop-given-init : goal.loop-given-init
loop-given-init g c =
    let gives = c.into_iter-given-iterator.ensures.into_iter_gives in
    let many = gives.1 in
    let none = c.in_ok-sites.ensures.items in
    let empty : vec_len c.in_ok-sites.sites ≡ 0 = search rules in record {
      count = omega (arith, empty, many);
      outs = search rules;
      node = sym empty;
      room = search rules;
      ether = c.requires.starter;
      left = left_all
          (λ i r. MatchResult r (λ e. HasEnded (g.W.Work.done c.args.work.now) i e.mine e.out)
          (StopsFor (g.W.Work.gives_up c.args.work.now) i))
          (vec_len c.in_ok-sites.sites) _ c.args.stopped.all.items empty gives.0 c.requires.given;
      told = told_none g.S.Setup.config g.S.Setup.opened g.S.Setup.programs c.args.starter.now.known
          (map so_far_of c.in_ok-sites.sites.items) (ap (map so_far_of) none);
      kept = subst (AllKeepSoFar c.args.plan.now.keep) (sym (ap (map so_far_of) none))
          (All-nil (λ (n : NodeSoFar). n.keep ≡ c.args.plan.now.keep));
      stand = stand_none (g.W.Work.done c.args.work.now) (map so_far_of c.in_ok-sites.sites.items) _
          (ap (map so_far_of) none);
    }

pub part_with-requires-clause-given : goal.part_with-requires-clause-given
part_with-requires-clause-given g c κs within =
    let was = c.loop-given.invariant in
    subst
    (λ i. MatchResult c.in-Some.given
    (λ e. HasEnded (g.W.Work.done c.args.work.now) i e.mine e.out)
    (StopsFor (g.W.Work.gives_up c.args.work.now) i))
    (sym was.node)
    (left_first
    (λ i r. MatchResult r (λ e. HasEnded (g.W.Work.done c.args.work.now) i e.mine e.out)
    (StopsFor (g.W.Work.gives_up c.args.work.now) i))
    (vec_len c.loop-given.sites) c.in-Some.given _ _ c.in-Some.ensures.steps.0 was.left)

pub returns-in_default-clause-starter : goal.returns-in_default-clause-starter
returns-in_default-clause-starter g c = c.loop-given.invariant.ether ∙ sym c.requires.starter

pub returns-in_err-parted-clause-starter : goal.returns-in_err-parted-clause-starter
returns-in_err-parted-clause-starter g c = c.loop-given.invariant.ether ∙ sym c.requires.starter

pub returns-in_err-site-clause-starter : goal.returns-in_err-site-clause-starter
returns-in_err-site-clause-starter g c =
    c.in_err-site.ensures.starter ∙ (c.loop-given.invariant.ether ∙ sym c.requires.starter)

pub returns-clause-starter : goal.returns-clause-starter
returns-clause-starter g c = c.loop-given.invariant.ether ∙ sym c.requires.starter

pub loop-given-preserved : goal.loop-given-preserved
loop-given-preserved g c =
    let at = c.loop-given in
    let was = at.invariant in
    let steps = c.in-Some.ensures.steps.0 in
    let site = c.in_ok-site.site in
    let out = c.in_ok-site.out in
    let sites = c.push_reserved.new.self in
    let outs = c.push_reserved-in-loop-given.new.self in
    let count = was.count in
    let number = was.node in
    let many = was.outs in
    let few = c.requires.few in
    let longer : vec_len sites ≡ vec_len at.sites + 1 = search rules in
    let longer_outs : vec_len outs ≡ vec_len at.outs + 1 = search rules in
    let left : into_iter_len at.given-iterator ≡ into_iter_len c.next.new.self + 1 = search rules in
    let long = length-map at.sites.items so_far_of in
    let mapped : map so_far_of sites.items ≡ map so_far_of at.sites.items ++ so_far_of site ∷ [] =
    ap (map so_far_of) c.push_reserved.ensures.items
    ∙ map-append so_far_of at.sites.items (site ∷ []) in
    let here : vec_len at.sites ≡ length (map so_far_of at.sites.items) =
    omega (arith, long, at.sites.ok.0) in
    let last : Stands (g.W.Work.done c.args.work.now) (length (map so_far_of at.sites.items))
    (so_far_of site) out =
    subst (λ i. Stands (g.W.Work.done c.args.work.now) i (so_far_of site) out) (number ∙ here)
    c.in_ok-site.ensures.stands in
    record {
      count = omega (arith, count, longer, left);
      outs = omega (arith, many, longer, longer_outs);
      node = omega (arith, count, number, longer, left, few);
      room = search rules;
      ether = c.in_ok-site.ensures.starter ∙ was.ether;
      left = left_more
          (λ i r. MatchResult r (λ e. HasEnded (g.W.Work.done c.args.work.now) i e.mine e.out)
          (StopsFor (g.W.Work.gives_up c.args.work.now) i))
          (vec_len at.sites) (vec_len sites) _ _ _ steps longer was.left;
      told = told_more g.S.Setup.config g.S.Setup.opened g.S.Setup.programs _ _
          (map so_far_of at.sites.items) _
          (so_far_of site) at.node (number ∙ here) mapped c.in_ok-site.ensures.told was.told;
      kept = subst (AllKeepSoFar c.args.plan.now.keep) (sym mapped)
          (All-push (λ (n : NodeSoFar). n.keep ≡ c.args.plan.now.keep)
          (map so_far_of at.sites.items) (so_far_of site) was.kept c.in_ok-site.ensures.keep);
      stand = subst (λ l. AllStand (g.W.Work.done c.args.work.now) (map so_far_of sites.items) l)
          (sym c.push_reserved-in-loop-given.ensures.items)
          (subst (λ l. AllStand (g.W.Work.done c.args.work.now) l (at.outs.items ++ out ∷ []))
          (sym mapped)
          (stand_more (g.W.Work.done c.args.work.now) (map so_far_of at.sites.items) at.outs.items
          (so_far_of site) out (omega (arith, long, many, at.sites.ok.0, at.outs.ok.0)) was.stand last));
    }
