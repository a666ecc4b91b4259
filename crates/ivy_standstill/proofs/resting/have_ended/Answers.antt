use Rattle.std.proofs.Common.{◌≡◌, ◌<◌, All, ℕ, List, length, map, slice_index_or, false, true, refl, sym, subst, ◌∙◌}
use Rattle.std.proofs.lemmas.List.{get_or-map, length-map, take_all}
use Rattle.std.proofs.lemmas.List.Elements.{All-map, All-more}
use Rattle.ivy_program.specs.InstructionSteps.{HasEnded}
use Rattle.ivy_site.specs.SiteView.{SiteView}
use Rattle.ivy_standstill.specs.Ends.{HaveEnded}
use Rattle.ivy_standstill.specs.SoFar.{NodeSoFar, so_far_of}
use Rattle.ivy_standstill.proofs.resting.have_ended.Goals as goal

not-yes : false ≡ true → ⊥
not-yes is = cc

abbrev Ended : SiteView → Type 0
Ended s = HasEnded s.node.core.process

-- where the nodes of a report have ended, each of its sites has
ended_at : (sites : List SiteView) (k : ℕ) (d : SiteView) → k < length sites
    → HaveEnded (map so_far_of sites) → Ended (slice_index_or sites k d)
ended_at sites k d within all =
    subst (λ (n : NodeSoFar). HasEnded n.node.core.process)
    (get_or-map so_far_of sites k d (so_far_of d) within)
    (all k (so_far_of d) (subst (λ j. k < j) (sym (length-map sites so_far_of)) within))

pub returns-then-not-ended : goal.returns-then-not-ended
returns-then-not-ended g c = (
  λ yes. absurd (not-yes yes),
  λ all.
      let has : Ended c.site-item.result =
      subst Ended (sym c.site-item.is)
      (ended_at c.args.sites.now c.loop-site.site-index c.site-item.result c.loop-site-test.true
      all) in
      absurd (not-yes (sym c.if-not-ended.true ∙ c.ended.ensures.1 has)),
)

pub loop-site-preserved : goal.loop-site-preserved
loop-site-preserved g c =
    All-more Ended c.args.sites.now c.loop-site.site-index c.site-item.result
    c.loop-site-test.true c.loop-site.invariant
    (subst Ended c.site-item.is (c.ended.ensures.0 c.if-not-ended.false))

pub returns : goal.returns
returns g c = (
  λ yes. All-map (λ (n : NodeSoFar). HasEnded n.node.core.process) so_far_of c.args.sites.now
      (subst (All Ended)
      (take_all c.loop-site.site-index c.args.sites.now c.loop-site-test.false)
      c.loop-site.invariant),
  λ all. refl,
)
