use Rattle.std.proofs.Common.{◌≡◌}
use Rattle.ivy_host.specs.stated.Holding.{AllSpell}
use Rattle.ivy_texts.specs.Drawn.{seeded}
use Rattle.ivy_simulation.proofs.Simulating.{IsDrawnSince}
use Rattle.ivy_simulation.proofs.simulation.run_drawn.Given as goal

abbrev pub invariant-loop-made : goal.invariant-loop-made
invariant-loop-made g l = record {
  config : l.world.config ≡ l.config;
  spelled : AllSpell l.world.config l.world.world;
  drawn : IsDrawnSince l.config (seeded l.seed) l.initial.world.world l._made l.generator
      l.world.world;
}
