use Rattle.std.proofs.Common.{rules, ◌≡◌, Some, slice_get, sym, ap, subst, ◌∙◌}
use Rattle.ivy_model.specs.declared.Config.{Config}
use Rattle.ivy_model.specs.stated.Config.{IsConfig}
use Rattle.ivy_moves.specs.declared.keep.Keep.TheVariants.{All}
use Rattle.ivy_site.specs.SiteView.{SiteView}
use Rattle.ivy_site.specs.Sites.{first_keeping, first_opened}
use Rattle.test_programs.proofs.sessions.wire_turns.seat.Goals as goal

pub new-requires-2 : goal.new-requires-2
new-requires-2 g c =
    let first : c.in-Ok.site ≡ first_keeping All c.args.config.now c.args.node c.args.program =
    c.in-Ok.ensures.first in
    let me : c.in-Ok.site.me ≡ c.args.node = ap (λ (x : SiteView). x.me) first in
    let keep = ap (λ (x : SiteView). x.keep) first in
    record {
      fresh = record {
        limits = subst IsConfig c.requires.config c.requires.limits;
        each = c.requires.each ∙ ap (λ (k : Config). k.nodes) c.requires.config;
        ether = search rules;
        pass = search rules;
        program = c.args.program;
        there = subst (λ i. slice_get g.S.Setup.programs i ≡ Some c.args.program) (sym me)
            c.requires.there;
        site = first
            ∙ (λ k. first_opened (sym c.requires.opened k) (sym keep k) (c.requires.config k)
            (sym me k)
            c.args.program);
      };
    }
