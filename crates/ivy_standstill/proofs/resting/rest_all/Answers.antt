use Rattle.std.proofs.Common.{◌≡◌, ◌<◌, ◌≤◌, ◌+◌, All, length, map, slice_set, take, sym, ap, subst, ◌∙◌, arith}
use Rattle.std.proofs.lemmas.List.{set-get_or, take_all}
use Rattle.std.proofs.lemmas.List.Elements.{All-map, All-more}
use Rattle.ivy_site.specs.SiteView.{SiteView}
use Rattle.ivy_standstill.specs.Ends.{HasNoTurn}
use Rattle.ivy_standstill.specs.SoFar.{NodeSoFar, so_far_of}
use Rattle.ivy_standstill.proofs.resting.rest_all.Goals as goal

abbrev Rests : SiteView → Type 0
Rests s = HasNoTurn s.node

pub loop-place-preserved : goal.loop-place-preserved
loop-place-preserved g c =
    let at = c.loop-place in
    let was = c.index_mut.result.now in
    let test = c.loop-place-test.true in
    let end = c.len-place-end.ensures in
    let whole = c.args.sites.ok.0 in
    let long = ap length at.invariant.same in
    let within : at.place < length at.sites.items = omega (arith, test, end, whole, long) in
    let kept : slice_set at.sites.items at.place c.rest.new.site ≡ at.sites.items =
    ap (slice_set at.sites.items at.place) (c.in_ok-rest.ensures.same ∙ c.index_mut.ensures.value)
    ∙ set-get_or at.sites.items at.place was in
    record {
      same = kept ∙ at.invariant.same;
      rest = subst (λ l. All Rests (take (at.place + 1) l)) (sym kept)
          (All-more Rests at.sites.items at.place was within at.invariant.rest
          (subst Rests c.index_mut.ensures.value c.in_ok-rest.ensures.rests));
    }

pub returns-clause-rest : goal.returns-clause-rest
returns-clause-rest g c =
    let at = c.loop-place in
    let test = c.loop-place-test.false in
    let end = c.len-place-end.ensures in
    let whole = c.args.sites.ok.0 in
    let long = ap length at.invariant.same in
    let past : length at.sites.items ≤ at.place = omega (arith, test, end, whole, long) in
    All-map (λ (n : NodeSoFar). HasNoTurn n.node) so_far_of at.sites.items
    (subst (All Rests) (take_all at.place at.sites.items past) at.invariant.rest)
