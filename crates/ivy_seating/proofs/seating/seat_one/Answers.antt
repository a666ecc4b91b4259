use Rattle.std.proofs.Common.{rules, ◌≡◌, Some, slice_get, sym, ap, subst, ◌∙◌}
use Rattle.ivy_model.specs.declared.Config.{Config}
use Rattle.ivy_model.specs.stated.Config.{IsConfig}
use Rattle.ivy_ether.specs.Held.{Held}
use Rattle.ivy_ether.specs.Views.{newcomer, with_seat}
use Rattle.ivy_site.specs.SiteView.{SiteView}
use Rattle.ivy_site.specs.Sites.{first_opened}
use Rattle.ivy_seating.proofs.seating.seat_one.Goals as goal

pub new-requires : goal.new-requires
new-requires g c =
    let found : c.in-Some.found ≡ c.args.node = search rules in
    let first : c.in_ok-site.site
    ≡ first_opened c.args.plan.now.opening c.args.plan.now.keep c.args.plan.now.config
    c.args.node c.args.program =
    c.in_ok-site.ensures.first in
    let me : c.in_ok-site.site.me ≡ c.args.node = ap (λ (x : SiteView). x.me) first in
    let keep = ap (λ (x : SiteView). x.keep) first in
    record {
      fresh = record {
        limits = subst IsConfig c.requires.config c.requires.limits;
        each = c.requires.each ∙ ap (λ (k : Config). k.nodes) c.requires.config;
        ether = c.take_seat.ensures.pass ∙ ap (λ (h : Held). h.ether) c.requires.pass;
        pass = c.in-Some.ensures.known
            ∙ ap (λ (h : Held). with_seat h.known c.in-Some.found) c.requires.pass
            ∙ ap (with_seat newcomer) (found ∙ sym me);
        program = c.args.program;
        there = subst (λ i. slice_get g.S.Setup.programs i ≡ Some c.args.program) (sym me)
            c.requires.there;
        site = first ∙ (λ k. first_opened (c.requires.opened k) (sym keep k) (c.requires.config k)
            (sym me k) c.args.program);
      };
    }
