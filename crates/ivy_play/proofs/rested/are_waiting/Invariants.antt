use Rattle.std.proofs.Common.{◌≡◌, ◌<◌, ℕ, Some, slice_get}
use Rattle.ivy_play.specs.Endings.{IsWaiting}
use Rattle.ivy_play.proofs.rested.are_waiting.Given as goal

abbrev pub invariant-loop-node : goal.invariant-loop-node
invariant-loop-node g l = (i : ℕ) → i < l.node → (o : _) → slice_get l.outcomes i ≡ Some o
    → IsWaiting l.world.world i o
