use Rattle.std.proofs.Common.{rules, ◌≡◌, ◌<◌, ◌∙◌, ap, sym, length, slice_get, Some, refl, subst}
use Rattle.std.specs.Prelude.{IfSome}
use Rattle.std.proofs.lemmas.Option.{slice_get_read}
use Rattle.ivy_site.specs.SiteView.{SiteView}
use Rattle.ivy_join.proofs.join_logs.Joined.records.Goals as goal

pub returns : goal.returns
returns g c =
    let same : c.args.self.now ≡ c.self.inside.sites.items = search rules in
    let below : c.args.node < length c.self.inside.sites.items = search rules in
    let there : slice_get c.self.inside.sites.items c.args.node ≡ Some c.index.result.now =
    slice_get_read c.self.inside.sites.items (length c.self.inside.sites.items) c.args.node
    c.index.result.now refl below c.index.ensures in
    subst (λ o. IfSome o (λ (s : SiteView). c.records.result ≡ length s.node.core.history))
    (sym (ap (λ l. slice_get l c.args.node) same ∙ there))
    c.records.ensures
