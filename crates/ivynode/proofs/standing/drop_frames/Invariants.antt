use Rattle.std.proofs.Common.{length}
use Rattle.ivynode.proofs.standing.drop_frames.Given as goal

abbrev pub decreases-loop-string : goal.decreases-loop-string
decreases-loop-string l = length l.site.waiting
