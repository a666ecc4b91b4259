use Rattle.std.proofs.Common.{◌≡◌, take}
use Rattle.proof_worlds.specs.stated.Reached.{IsLedTo}
use Rattle.ivy_simulation.specs.Played.{Adds}
use Rattle.ivy_simulation.proofs.trace.trace_moves.Given as goal

abbrev pub invariant-loop-before : goal.invariant-loop-before
invariant-loop-before g l = record {
  config : l.world.config ≡ l.initial.world.config;
  made : IsLedTo l.initial.world.config l.initial.world.world (take l.before l.moves) l.world.world;
  printed : Adds (g.W.Write.contents l.initial.out) (g.W.Write.contents l.out);
}
