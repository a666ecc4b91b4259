-- That all that was sent was delivered.
use Rattle.std.specs.Prelude.{◌≡◌, ◌≢◌, ℕ, List, slice_get, Some}
use Rattle.ivy_link.specs.stated.Linked.{peer_at}
use Rattle.ivy_site.specs.SiteView.{SiteView}

-- all that node i sent to the others was delivered there
abbrev pub IsSiteDelivered : List SiteView → ℕ → Type 0
IsSiteDelivered sites i = (j : ℕ) (s t : SiteView) → i ≢ j → slice_get sites i ≡ Some s
    → slice_get sites j ≡ Some t
    → (peer_at t.node.link i).delivered ≡ (peer_at s.node.link j).sent

abbrev pub AreSitesDelivered : List SiteView → Type 0
AreSitesDelivered sites = (i : ℕ) → IsSiteDelivered sites i
