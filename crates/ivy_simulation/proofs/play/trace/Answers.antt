-- The moves led from the opening of these programs, and were traced.
use Rattle.std.proofs.Common.{◌∙◌}
use Rattle.ivy_simulation.proofs.Leading.{moves-printed}
use Rattle.ivy_simulation.proofs.play.trace.Goals as goal

pub returns : goal.returns
returns g c =
    moves-printed c.args.settings c.len.result c.args.opening c.in_ok-config.config c.args.programs.items
    c.in_ok-world.world _ _ _ (c.len.ensures ∙ c.args.programs.ok.0)
    c.in_ok-config.ensures.shown c.in_ok-world.ensures.opens _ c.args.moves.now
    c.in_ok-trace_moves.ensures.made c.in_ok-trace_moves.ensures.printed c.in_ok-print_world.ensures
