use Rattle.std.proofs.Common.{◌∙◌}
use Rattle.std.proofs.lemmas.List.{length-map}
use Rattle.ivy_simulation.proofs.print.print_world.Goals as goal

pub print_outputs-requires : goal.print_outputs-requires
print_outputs-requires g c =
    length-map c.args.world.now.world.nodes (λ n. n.core.process.state.output) ∙ c.requires
