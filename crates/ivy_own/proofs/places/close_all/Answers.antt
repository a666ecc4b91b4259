use Rattle.std.proofs.Common.{rules, arith, ◌≡◌, ◌+◌, length, map, slice_get, vec_len, [], ◌∷◌, ◌++◌, sym, ap, subst, ◌∙◌}
use Rattle.std.proofs.lemmas.List.{length-map, map-append}
use Rattle.std.proofs.lemmas.List.Elements.{All-nil, All-push}
use Rattle.std.proofs.lemmas.Option.{none-some}
use Rattle.std.specs.Vec.Iter.{into_iter_len}
use Rattle.ivy_calls.specs.Answers.{answers}
use Rattle.ivy_seating.specs.Reports.{NodeReport, report_of, AllKeep}
use Rattle.ivy_seating.proofs.Collected.{told_more, told_none}
use Rattle.ivy_site.specs.SiteView.{SiteView}
use Rattle.ivy_own.specs.Ended.{HasEnded, AreClosed}
use Rattle.ivy_own.proofs.Each.{left_all, left_first, left_more, closed_more}
use Rattle.ivy_own.proofs.places.close_all.Goals as goal

pub loop-ended-init : goal.loop-ended-init
loop-ended-init g c =
    let gives = c.into_iter-ended-iterator.ensures.into_iter_gives in
    let many = gives.1 in
    let none = c.in_ok-sites.ensures.items in
    let empty : vec_len c.in_ok-sites.sites ≡ 0 = search rules in record {
      count = omega (arith, empty, many);
      outs = search rules;
      node = sym empty;
      room = search rules;
      ether = c.requires.starter;
      left = left_all (λ i e. HasEnded (g.W.Work.done c.args.work.now) i e.mine e.out)
          (vec_len c.in_ok-sites.sites) _ c.args.worked.all.items empty gives.0 c.requires.done;
      told = told_none g.S.Setup.config g.S.Setup.opened g.S.Setup.programs c.args.starter.now.known
          (map report_of c.in_ok-sites.sites.items) (ap (map report_of) none);
      kept = subst (AllKeep c.args.plan.now.keep) (sym (ap (map report_of) none))
          (All-nil (λ (n : NodeReport). n.keep ≡ c.args.plan.now.keep));
      done = λ i n out there its. absurd
          (none-some n (ap (λ l. slice_get (map report_of l) i) (sym none) ∙ there));
    }

pub agree-requires : goal.agree-requires
agree-requires g c =
    let was = c.loop-ended.invariant in
    let mine =
    left_first (λ i e. HasEnded (g.W.Work.done c.args.work.now) i e.mine e.out)
    (vec_len c.loop-ended.sites) c.in-Some.ended _ _ c.in-Some.ensures.steps.0 was.left in
    mine.0 ∙ sym was.node

pub returns-in_default-clause-starter : goal.returns-in_default-clause-starter
returns-in_default-clause-starter g c = c.loop-ended.invariant.ether ∙ sym c.requires.starter

pub returns-in_err-homed-clause-starter : goal.returns-in_err-homed-clause-starter
returns-in_err-homed-clause-starter g c = c.loop-ended.invariant.ether ∙ sym c.requires.starter

pub returns-in_err-site-clause-starter : goal.returns-in_err-site-clause-starter
returns-in_err-site-clause-starter g c =
    c.in_err-site.ensures.ether ∙ (c.loop-ended.invariant.ether ∙ sym c.requires.starter)

pub returns-clause-starter : goal.returns-clause-starter
returns-clause-starter g c = c.loop-ended.invariant.ether ∙ sym c.requires.starter

pub loop-ended-preserved : goal.loop-ended-preserved
loop-ended-preserved g c =
    let at = c.loop-ended in
    let was = at.invariant in
    let steps = c.in-Some.ensures.steps.0 in
    let site = c.in_ok-site.site in
    let ended = c.in-Some.ended in
    let sites = c.push_reserved.new.self in
    let outs = c.push_reserved-in-loop-ended.new.self in
    let count = was.count in
    let number = was.node in
    let many = was.outs in
    let few = c.requires.few in
    let longer : vec_len sites ≡ vec_len at.sites + 1 = search rules in
    let longer_outs : vec_len outs ≡ vec_len at.outs + 1 = search rules in
    let left : into_iter_len at.ended-iterator ≡ into_iter_len c.next.new.self + 1 = search rules in
    let long = length-map at.sites.items report_of in
    let mapped : map report_of sites.items ≡ map report_of at.sites.items ++ report_of site ∷ [] =
    ap (map report_of) c.push_reserved.ensures.items
    ∙ map-append report_of at.sites.items (site ∷ []) in
    let here : vec_len at.sites ≡ length (map report_of at.sites.items) =
    omega (arith, long, at.sites.ok.0) in
    let mine =
    left_first (λ i e. HasEnded (g.W.Work.done c.args.work.now) i e.mine e.out)
    (vec_len at.sites) ended _ _ steps was.left in
    let last : g.W.Work.done c.args.work.now (length (map report_of at.sites.items))
    (answers (report_of site).history) ended.out =
    subst
    (λ l. g.W.Work.done c.args.work.now (length (map report_of at.sites.items)) l ended.out)
    (c.in_ok-homed.ensures.answers
    ∙ ap (λ (s : SiteView). answers s.node.core.history) (sym c.in_ok-site.ensures.site))
    (subst (λ i. g.W.Work.done c.args.work.now i ended.mine.list ended.out) here mine.1) in
    record {
      count = omega (arith, count, longer, left);
      outs = omega (arith, many, longer, longer_outs);
      node = omega (arith, count, number, longer, left, few);
      room = search rules;
      ether = c.in_ok-site.ensures.ether ∙ was.ether;
      left = left_more (λ i e. HasEnded (g.W.Work.done c.args.work.now) i e.mine e.out)
          (vec_len at.sites) (vec_len sites) _ _ _ steps longer was.left;
      told = told_more g.S.Setup.config g.S.Setup.opened g.S.Setup.programs _ _
          (map report_of at.sites.items) _
          (report_of site) at.node (number ∙ here) mapped c.in_ok-site.ensures.told was.told;
      kept = subst (AllKeep c.args.plan.now.keep) (sym mapped)
          (All-push (λ (n : NodeReport). n.keep ≡ c.args.plan.now.keep) (map report_of at.sites.items)
          (report_of site) was.kept c.in_ok-site.ensures.keep);
      done = subst (λ l. AreClosed (g.W.Work.done c.args.work.now) (map report_of sites.items) l)
          (sym c.push_reserved-in-loop-ended.ensures.items)
          (subst
          (λ l. AreClosed (g.W.Work.done c.args.work.now) l (at.outs.items ++ ended.out ∷ []))
          (sym mapped)
          (closed_more (g.W.Work.done c.args.work.now) (map report_of at.sites.items) at.outs.items
          (report_of site) ended.out (omega (arith, long, many, at.sites.ok.0, at.outs.ok.0))
          was.done last));
    }
