use Rattle.std.proofs.Common.{◌≡◌, [], length}
use Rattle.ivy_join.proofs.replay_log.drop_frames.Given as goal

-- nothing of the site changes but what waits
abbrev pub invariant-loop-string : goal.invariant-loop-string
invariant-loop-string g l = record l.site { waiting = [] } ≡ record l.initial.site { waiting = [] }

abbrev pub decreases-loop-string : goal.decreases-loop-string
decreases-loop-string g l = length l.site.waiting
