-- Each log so far names this sum, or none.
use Rattle.std.proofs.Common.{◌≡◌, All, map, take}
use Rattle.ivy_join.specs.Joined.{NamesSum}
use Rattle.ivy_join.proofs.join_logs.check_sums.Given as goal

abbrev pub invariant-loop-log : goal.invariant-loop-log
invariant-loop-log g l = record {
  node : l.node ≡ l.log-index;
  names : All (NamesSum l.sum) (take l.log-index (map (λ x. x.sum) l.logs));
}
