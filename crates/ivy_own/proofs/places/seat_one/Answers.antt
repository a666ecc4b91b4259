use Rattle.std.proofs.Common.{rules, ◌≡◌, ◌<◌, [], length, slice_get, sym, ap, subst, ◌∙◌, arith}
use Rattle.std.proofs.lemmas.List.{length-replicate}
use Rattle.ivy_model.specs.declared.Config.{Config}
use Rattle.ivy_model.specs.stated.Config.{IsConfig}
use Rattle.ivy_program.specs.stated.Programs.{Called}
use Rattle.ivy_ether.specs.Held.{Held}
use Rattle.ivy_ether.specs.Views.{newcomer, with_seat}
use Rattle.ivy_site.specs.SiteView.{SiteView}
use Rattle.ivy_site.specs.Sites.{first_opened}
use Rattle.ivy_own.proofs.Each.{get_replicate}
use Rattle.ivy_own.proofs.places.seat_one.Goals as goal

pub issue_seat-requires-clause-node : goal.issue_seat-requires-clause-node
issue_seat-requires-clause-node g c =
    let long : length g.S.Setup.programs ≡ g.S.Setup.config.nodes =
    ap length c.requires.programs ∙ length-replicate g.S.Setup.config.nodes (Called [] []) in
    let nodes = ap (λ (k : Config). k.nodes) c.requires.config in
    let lt = c.requires.node in omega (arith, long, nodes, lt)

pub new-requires : goal.new-requires
new-requires g c =
    let found : c.in-Some.found ≡ c.args.node = search rules in
    let first : c.in_ok-site.site
    ≡ first_opened c.args.plan.now.opening c.args.plan.now.keep c.args.plan.now.config
    c.args.node (Called [] []) =
    c.in_ok-site.ensures.first in
    let me : c.in_ok-site.site.me ≡ c.args.node = ap (λ (x : SiteView). x.me) first in
    let keep = ap (λ (x : SiteView). x.keep) first in
    let inside : c.args.node < g.S.Setup.config.nodes =
    subst (λ (k : Config). c.args.node < k.nodes) c.requires.config c.requires.node in
    record {
      fresh = record {
        limits = subst IsConfig c.requires.config c.requires.limits;
        each = ap length c.requires.programs
            ∙ length-replicate g.S.Setup.config.nodes (Called [] []);
        ether = c.take_seat.ensures.pass ∙ ap (λ (h : Held). h.ether) c.requires.pass;
        pass = c.in-Some.ensures.known
            ∙ ap (λ (h : Held). with_seat h.known c.in-Some.found) c.requires.pass
            ∙ ap (with_seat newcomer) (found ∙ sym me);
        program = Called [] [];
        there = ap (slice_get g.S.Setup.programs) me
            ∙ ap (λ l. slice_get l c.args.node) c.requires.programs
            ∙ get_replicate g.S.Setup.config.nodes c.args.node (Called [] []) inside;
        site = first
            ∙ (λ k. first_opened (c.requires.opened k) (sym keep k) (c.requires.config k) (sym me k)
            (Called [] []));
      };
    }
