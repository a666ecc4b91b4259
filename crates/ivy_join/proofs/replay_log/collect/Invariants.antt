use Rattle.std.proofs.Common.{◌≡◌, ◌⊎◌, ℕ, List, [], length, Contains}
use Rattle.ivy_join.specs.ReplaySites.{AddsSent}
use Rattle.ivy_join.proofs.replay_log.collect.Given as goal

-- nothing of the site changes but what waits, each string that was added was sent by its events, and what waited was
-- added, or waits still
abbrev pub invariant-loop-string : goal.invariant-loop-string
invariant-loop-string g l = record {
  site : record l.site { waiting = [] } ≡ record l.initial.site { waiting = [] };
  kept : (bytes : List ℕ) → Contains l.initial.sent bytes → Contains l.sent bytes;
  added : AddsSent l.initial.site l.initial.sent l.sent;
  taken : (bytes : List ℕ) → Contains l.initial.site.waiting bytes
      → Contains l.sent bytes ⊎ Contains l.site.waiting bytes;
}

abbrev pub decreases-loop-string : goal.decreases-loop-string
decreases-loop-string g l = length l.site.waiting
