use Rattle.std.proofs.Common.{◌≡◌, ◌<◌, ◌+◌, ◌++◌, ℕ, List, length}
use Rattle.ivy_moves.specs.declared.Move.{Move}
use Rattle.ivy_world.specs.WorldRounds.{HasIdleTurn}
use Rattle.ivy_play.specs.Played.{LeadsOn}
use Rattle.ivy_play.proofs.stage.find_still.Given as goal

abbrev pub invariant-loop-node : goal.invariant-loop-node
invariant-loop-node g l = record {
  config : l.world.config ≡ l.fn.world.config;
  played : LeadsOn l.fn.moves.items l.fn.world l.moves.items l.world;
  more : (more : List Move) × (l.moves.items ≡ l.fn.moves.items ++ more);
  longer : length l.moves.items ≡ length l.fn.moves.items + l.node;
  idle : (i : ℕ) → i < l.node → HasIdleTurn l.world.world i;
}
