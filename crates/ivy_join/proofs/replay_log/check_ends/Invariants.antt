use Rattle.std.proofs.Common.{◌≡◌, ◌<◌, ◌≤◌, ℕ, List, length, map, slice_get, Some}
use Rattle.ivy_logs.specs.Entries.{LogEntry}
use Rattle.ivy_join.proofs.replay_log.check_ends.Given as goal

abbrev pub invariant-loop-node : goal.invariant-loop-node
invariant-loop-node g l = (i : ℕ) → i < l.node → (log : List LogEntry) (m : ℕ)
    → slice_get (map (λ x. x.entries.items) l.logs) i ≡ Some log → slice_get l.made i ≡ Some m → length log ≤ m
