use Rattle.std.proofs.Common.{◌≡◌, ◌≢◌, ◌<◌, ℕ, slice_get, Some}
use Rattle.ivy_link.specs.stated.Linked.{peer_at}
use Rattle.ivy_site.specs.SiteView.{SiteView}
use Rattle.ivy_standstill.proofs.delivered.is_delivered_from.Given as goal

abbrev pub invariant-loop-to : goal.invariant-loop-to
invariant-loop-to g l = (j : ℕ) (s t : SiteView) → j < l.to → l.from ≢ j
    → slice_get l.sites l.from ≡ Some s → slice_get l.sites j ≡ Some t
    → (peer_at t.node.link l.from).delivered ≡ (peer_at s.node.link j).sent
