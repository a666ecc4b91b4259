use Rattle.std.proofs.Common.{◌≡◌, length}
use Rattle.test_layers.proofs.link.keep_many.Given as goal

abbrev pub invariant-loop : goal.invariant-loop
invariant-loop g l = length l.link.peers ≡ 3
