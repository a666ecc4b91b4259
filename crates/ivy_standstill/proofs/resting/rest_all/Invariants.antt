use Rattle.std.proofs.Common.{◌≡◌, All, take}
use Rattle.ivy_site.specs.SiteView.{SiteView}
use Rattle.ivy_standstill.specs.Ends.{HasNoTurn}
use Rattle.ivy_standstill.proofs.resting.rest_all.Given as goal

-- the sites are the same, and the turns of those so far do nothing
abbrev pub invariant-loop-place : goal.invariant-loop-place
invariant-loop-place g l = record {
  same : l.sites.items ≡ l.initial.sites.items;
  rest : All (λ (s : SiteView). HasNoTurn s.node) (take l.place l.sites.items);
}
