use Rattle.std.proofs.Common.{rules, ◌≡◌, ◌++◌, ◌∷◌, [], length, ap, sym, ◌∙◌, append-nil, arith}
use Rattle.std.proofs.lemmas.List.{nil_from_length}
use Rattle.std.specs.Vec.Iter.{into_iter_items}
use Rattle.ivy_world.specs.WorldSites.{first_sites_from}
use Rattle.ivy_world.proofs.Worlds.{one_more_site}
use Rattle.ivy_world.proofs.world.first_sites.Goals as goal

pub loop-program-init : goal.loop-program-init
loop-program-init g c =
    let gives = c.into_iter-program-iterator.ensures.into_iter_gives in record {
      can = search rules;
      finite = search rules;
      left = search rules;
      count = (let long = ap length gives.0 ∙ c.requires.each in omega (arith, long));
      all = ap
          (λ x. x ++ first_sites_from c.args.opening c.args.config.now 0
          (into_iter_items c.into_iter-program-iterator.result)) c.in_ok-sites.ensures.items
          ∙ ap (first_sites_from c.args.opening c.args.config.now 0) gives.0;
    }

pub loop-program-preserved : goal.loop-program-preserved
loop-program-preserved g c =
    let at = c.loop-program in
    let was = at.invariant.left in
    let steps : into_iter_items at.program-iterator
    ≡ c.in-Some.program ∷ into_iter_items c.next.new.self = c.in-Some.ensures.steps.0 in
    let gone = c.in-Some.ensures.steps.1 in
    let short = ap length steps in
    let count = at.invariant.count in record {
      can = search rules;
      finite = search rules;
      left = omega arith;
      count = omega arith;
      all = one_more_site c.args.opening c.args.config.now at.me at.sites.items c.in-Some.program
          (into_iter_items at.program-iterator) (into_iter_items c.next.new.self) steps
          c.in_ok-opened.field-0 c.in_ok-opened.ensures.first c.push.new.self.items
          c.in_ok-push.ensures.items ∙ at.invariant.all;
    }

pub returns-clause-first : goal.returns-clause-first
returns-clause-first g c =
    let at = c.loop-program in
    let none = c.in-None.ensures.steps in
    let empty : into_iter_items at.program-iterator ≡ [] =
    nil_from_length _ (sym at.invariant.left ∙ none.0) in
    sym (append-nil at.sites.items)
    ∙ ap (λ l. at.sites.items ++ first_sites_from c.args.opening c.args.config.now at.me l)
    (sym empty)
    ∙ at.invariant.all
