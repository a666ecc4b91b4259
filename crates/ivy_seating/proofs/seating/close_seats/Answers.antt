use Rattle.std.proofs.Common.{rules, ◌≡◌, ◌∷◌, [], length, map, sym, ap, subst, ◌∙◌, arith}
use Rattle.std.proofs.lemmas.List.{length-map, map-append}
use Rattle.std.proofs.lemmas.List.Elements.{All-nil, All-push}
use Rattle.std.specs.Vec.Iter.{into_iter_items}
use Rattle.ivy_seating.specs.Reports.{NodeReport, report_of, AllKeep}
use Rattle.ivy_seating.specs.Collected.{AreTold}
use Rattle.ivy_seating.proofs.Collected.{told_more, told_none}
use Rattle.ivy_seating.proofs.seating.close_seats.Goals as goal

pub loop-seat-init : goal.loop-seat-init
loop-seat-init g c =
    let gives = c.into_iter-seat-iterator.ensures.into_iter_gives in
    let long = ap length gives.0 in
    let none = c.requires.empty in record {
      can = search rules;
      finite = search rules;
      left = search rules;
      room = search rules;
      ether = c.requires.starter;
      count = ap length (sym none);
      told = told_none g.S.Setup.config g.S.Setup.opened g.S.Setup.programs c.args.starter.now.known
          (map report_of c.args.empty.items) (ap (map report_of) none);
      kept = subst (AllKeep c.args.keep) (sym (ap (map report_of) none))
          (All-nil (λ (n : NodeReport). n.keep ≡ c.args.keep));
    }

pub loop-seat-preserved : goal.loop-seat-preserved
loop-seat-preserved g c =
    let at = c.loop-seat in
    let was = at.invariant.left in
    let steps : into_iter_items at.seat-iterator
    ≡ c.in-Some.seat ∷ into_iter_items c.next.new.self = c.in-Some.ensures.steps.0 in
    let gone = c.in-Some.ensures.steps.1 in
    let short = ap length steps in
    let count = at.invariant.count in
    let room = at.invariant.room in record {
      can = search rules;
      finite = search rules;
      left = omega arith;
      room = search rules;
      ether = c.in_ok-site.ensures.ether ∙ at.invariant.ether;
      count = search rules;
      told = told_more g.S.Setup.config g.S.Setup.opened g.S.Setup.programs _ _
          (map report_of at.sites.items) _
          (report_of c.in_ok-site.site) at.node
          (count ∙ sym (length-map at.sites.items report_of))
          (ap (map report_of) c.push_reserved.ensures.items
          ∙ map-append report_of at.sites.items (c.in_ok-site.site ∷ []))
          c.in_ok-site.ensures.told at.invariant.told;
      kept = subst (AllKeep c.args.keep)
          (sym (ap (map report_of) c.push_reserved.ensures.items
          ∙ map-append report_of at.sites.items (c.in_ok-site.site ∷ [])))
          (All-push (λ (n : NodeReport). n.keep ≡ c.args.keep) (map report_of at.sites.items)
          (report_of c.in_ok-site.site) at.invariant.kept c.in_ok-site.ensures.keep);
    }

pub returns-in_err-site-clause-starter : goal.returns-in_err-site-clause-starter
returns-in_err-site-clause-starter g c =
    c.in_err-site.ensures.ether ∙ (c.loop-seat.invariant.ether ∙ sym c.requires.starter)

pub returns-in_default-clause-starter : goal.returns-in_default-clause-starter
returns-in_default-clause-starter g c =
    c.in_ok-site.ensures.ether ∙ (c.loop-seat.invariant.ether ∙ sym c.requires.starter)

pub returns-clause-told : goal.returns-clause-told
returns-clause-told g c =
    subst (AreTold g.S.Setup.config g.S.Setup.opened g.S.Setup.programs c.loop-seat.starter.known)
    (sym c.new.ensures) c.loop-seat.invariant.told

pub returns-clause-keep : goal.returns-clause-keep
returns-clause-keep g c =
    subst (AllKeep c.args.keep) (sym c.new.ensures) c.loop-seat.invariant.kept
