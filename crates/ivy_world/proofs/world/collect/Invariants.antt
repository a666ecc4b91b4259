use Rattle.std.proofs.Common.{◌≡◌, ◌≤◌, ◌+◌, ◌++◌, [], length, vec_len, vec_capacity}
use Rattle.ivy_world.proofs.world.collect.Given as goal

-- those sent so far and those that wait are all, there is room for them, and nothing else of the
-- site changes
abbrev pub invariant-loop-bytes : goal.invariant-loop-bytes
invariant-loop-bytes g l = record {
  all : l.sent.items ++ l.site.waiting ≡ l.initial.sent.items ++ l.initial.site.waiting;
  room : vec_len l.sent + length l.site.waiting ≤ vec_capacity l.sent;
  site : record l.site { waiting = [] } ≡ record l.initial.site { waiting = [] };
}

abbrev pub decreases-loop-bytes : goal.decreases-loop-bytes
decreases-loop-bytes g l = length l.site.waiting
