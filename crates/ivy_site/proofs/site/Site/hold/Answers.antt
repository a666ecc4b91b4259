use Rattle.std.proofs.Common.{◌<◌, ap, refl, subst, sym}
use Rattle.ivy_site.specs.SiteView.{SiteView}
use Rattle.ivy_site.specs.Sites.{IsSite}
use Rattle.ivy_site.proofs.Heads.{head_is, source_there, held_head, held_any}
use Rattle.ivy_site.proofs.Receiving.{came_early, holding_site}
use Rattle.ivy_site.proofs.site.Site.hold.Goals as goal

pub invariant_of-self : goal.invariant_of-self
invariant_of-self g c = (
  subst IsSite
      (sym (held_head _ c.requires.spelled.0 c.head_of-head.result c.args.string c.hold.new.self
      (head_is c.args.self.now c.args.string c.bytes.result.now c.bytes.ensures c.requires.spelled
      c.head_of-head.result c.head_of-head.ensures) c.hold.ensures))
      (holding_site _ c.requires.spelled.0 c.args.string c.self.invariant.0
      (came_early _ _ c.self.view_is c.args.self.now.config c.requires.spelled.0 c.args.string
      c.args.string c.requires.early (sym (ap (λ (x : SiteView). x.config) c.self.view_is))
      c.requires.spelled.1 refl)),
  c.self.invariant.1,
)

pub hold-requires : goal.hold-requires
hold-requires g c = record {
  source =
      subst (λ (x : SiteView). c.head_of-head.result.source < x.config.nodes) (sym c.self.view_is)
      (source_there c.args.self.now c.args.string c.bytes.result.now c.bytes.ensures
      c.requires.spelled c.head_of-head.result c.head_of-head.ensures);
}

pub returns-clause-after : goal.returns-clause-after
returns-clause-after g c =
    held_any c.args.self.now _ _ c.self.view_is c.args.string c.bytes.result.now c.bytes.ensures
    c.head_of-head.result c.head_of-head.ensures c.hold.new.self c.hold.ensures refl
