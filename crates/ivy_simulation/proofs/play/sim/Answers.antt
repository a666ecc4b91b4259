-- The drawn moves led from the opening of these programs.
use Rattle.std.proofs.Common.{◌∙◌}
use Rattle.ivy_host.specs.declared.opening.Opening.TheVariants.{Configured}
use Rattle.ivy_simulation.proofs.Leading.{drawn-printed}
use Rattle.ivy_simulation.proofs.play.sim.Goals as goal

pub returns : goal.returns
returns g c =
    drawn-printed c.args.settings c.len.result Configured c.in_ok-config.config c.args.programs.items
    c.in_ok-world.world _ _ _ (c.len.ensures ∙ c.args.programs.ok.0)
    c.in_ok-config.ensures.shown c.in_ok-world.ensures.opens c.args.seed c.args.moves
    c.in_ok-run_drawn.ensures.drawn c.in_ok-print_world.ensures
