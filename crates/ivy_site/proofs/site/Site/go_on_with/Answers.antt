use Rattle.std.proofs.Common.{Contains, subst, sym, ◌∙◌}
use Rattle.ivy_site.specs.SiteView.{SiteView}
use Rattle.ivy_site.specs.Sites.{SpellsFrame, early_at}
use Rattle.ivy_site.specs.Inside.{Receives}
use Rattle.ivy_site.proofs.Receiving.{went_once, held_again}
use Rattle.ivy_site.proofs.site.Site.go_on_with.Goals as goal

pub receive-requires : goal.receive-requires
receive-requires g c = record {
  spelled =
      subst (λ (x : SiteView). SpellsFrame x.config c.in-Some.string) (sym c.in-Some.ensures.after)
      (c.in-Some.ensures.held.frame, c.in-Some.ensures.held.spelled);
}

pub hold-requires : goal.hold-requires
hold-requires g c =
    record {
      spelled =
          subst (λ (x : SiteView). SpellsFrame x.config c.in-Some.string)
          (sym (c.in-Err.ensures.done ∙ c.in-Some.ensures.after))
          (c.in-Some.ensures.held.frame, c.in-Some.ensures.held.spelled);
      early =
          subst (λ (x : SiteView). Contains (early_at x) c.in-Some.string)
          (sym (c.in-Err.ensures.done ∙ c.in-Some.ensures.after)) c.in-Some.ensures.held.early;
    }

pub returns-in-Ok-clause-done : goal.returns-in-Ok-clause-done
returns-in-Ok-clause-done g c =
    went_once c.args.self.now c.receive.new.self c.args.from _ c.in-Some.string _
    c.in-Some.ensures.limits c.in-Some.ensures.ready c.in-Some.ensures.held
    (subst (λ (x : SiteView). Receives c.in-Some.string c.in-Ok.field-0.0 c.in-Ok.field-0.1 x
    c.receive.new.self) c.in-Some.ensures.after c.in-Ok.ensures.done)

pub returns-in-Err-clause-done : goal.returns-in-Err-clause-done
returns-in-Err-clause-done g c =
    held_again c.args.self.now c.receive.new.self c.hold.new.self c.args.from c.in-Some.string
    c.in-Some.ensures.ready c.in-Some.ensures.held
    (c.in-Err.ensures.done ∙ c.in-Some.ensures.after) c.hold.ensures.after

pub returns-in-Err-clause-want : goal.returns-in-Err-clause-want
returns-in-Err-clause-want g c = c.in-Err.ensures.want
