use Rattle.std.proofs.Common.{◌≡◌, None, Some, MatchOption, subst}
use Rattle.ivy_link.specs.Holding.{ready_of}
use Rattle.ivy_site.specs.SiteView.{SiteView, holding_at}
use Rattle.ivy_site.proofs.site.Site.ready.Goals as goal

pub returns : goal.returns
returns g c =
    subst (λ (v : SiteView). MatchOption c.ready.result (ready_of (holding_at v) c.args.from ≡ None)
    (λ s. ready_of (holding_at v) c.args.from ≡ Some s.now)) c.self.view_is c.ready.ensures
