use Rattle.std.proofs.Common.{refl, ap, subst, ◌∙◌}
use Rattle.ivy_model.specs.stated.Config.{IsConfig}
use Rattle.ivy_wire.specs.Lent.{owned_frame}
use Rattle.ivy_memory.proofs.keeping.Beginning.{err_there}
use Rattle.ivy_site.specs.Sites.{IsSpentDelivery}
use Rattle.ivy_site.specs.SiteView.{SiteView}
use Rattle.ivy_site.proofs.Delivering.{spent_reading}
use Rattle.ivy_site.proofs.Heads.{reads_frame, refused_none}
use Rattle.ivy_site.proofs.site.Site.deliver_once.Goals as goal

pub returns-in_err-read_frame-clause-spent : goal.returns-in_err-read_frame-clause-spent
returns-in_err-read_frame-clause-spent g c =
    err_there c.from_residual.result (IsSpentDelivery c.args.self.now c.args.bytes.now) _
    c.from_residual.ensures.1
    (spent_reading _ _ c.self.view_is c.config-config.result c.args.bytes.now _ _
    c.config-config.ensures.is c.in_err-read_frame.ensures.fault)

pub receive_lent-requires-clause-spelled : goal.receive_lent-requires-clause-spelled
receive_lent-requires-clause-spelled g c =
    reads_frame c.args.self.now _ c.self.view_is c.config-config.result c.config-config.ensures.is
    (owned_frame c.in_ok-read_frame.field-0) c.args.bytes.now c.args.bytes.now refl
    c.in_ok-read_frame.ensures.found

pub returns-clause-refused : goal.returns-clause-refused
returns-clause-refused g c =
    let config = c.config-config.ensures.is ∙ ap (λ (x : SiteView). x.config) c.self.view_is in
    refused_none c.args.self.now.config (subst IsConfig config c.config-config.ensures.limits)
    c.args.bytes.now
    (reads_frame c.args.self.now _ c.self.view_is c.config-config.result
    c.config-config.ensures.is (owned_frame c.in_ok-read_frame.field-0) c.args.bytes.now
    c.args.bytes.now refl c.in_ok-read_frame.ensures.found)
    c.receive_lent.result c.receive_lent.ensures.want
