use Rattle.std.proofs.Common.{◌≡◌, length}
use Rattle.test_layers.proofs.held.check.Given as goal

abbrev pub invariant-loop-index : goal.invariant-loop-index
invariant-loop-index g l = length l.link.peers ≡ 3
