use Rattle.std.proofs.Common.{ℕ, ◌<◌, map, slice_get}
use Rattle.ivy_join.specs.OwnJoined.{IsTold}
use Rattle.ivy_join.proofs.join_logs.check_answers.Given as goal

-- each site before this place was told what its log says
abbrev pub invariant-loop-node : goal.invariant-loop-node
invariant-loop-node g l = (i : ℕ) → i < l.node
    → IsTold (slice_get (map (λ x. x.entries.items) l.logs) i) (slice_get l.sites i)
