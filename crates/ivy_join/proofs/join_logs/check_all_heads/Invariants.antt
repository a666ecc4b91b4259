use Rattle.std.proofs.Common.{◌≡◌, map, take}
use Rattle.ivy_join.specs.Joined.{AreHeads}
use Rattle.ivy_join.proofs.join_logs.check_all_heads.Given as goal

abbrev pub invariant-loop-log : goal.invariant-loop-log
invariant-loop-log g l = record {
  node : l.node ≡ l.log-index;
  heads : AreHeads l.steady l.config 0 (map (λ x. x.head) (take l.log-index l.logs));
}
