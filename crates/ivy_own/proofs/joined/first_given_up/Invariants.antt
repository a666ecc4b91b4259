use Rattle.std.proofs.Common.{◌≡◌}
use Rattle.ivy_own.proofs.joined.first_given_up.Given as goal

abbrev pub invariant-loop-given : goal.invariant-loop-given
invariant-loop-given g l = l.node ≡ l.given-index
