use Rattle.std.proofs.Common.{◌+◌, ◌*◌}
use Rattle.ivy_sync.specs.meeting.TreeFolds.{word_at}
use Rattle.ivy_sync.specs.meeting.TreeReductions.{Part}
use Rattle.ivy_sync.proofs.meeting.TreeFolded.{HasPut}
use Rattle.ivy_sync.proofs.tree_reduction.TreeReduction.put_together.Given as goal

abbrev pub invariant-loop-up : goal.invariant-loop-up
invariant-loop-up g l =
    HasPut (λ p x q. goal.F-post g l.f p x q) (word_at l.self Part) (4 * l.me + 1) l.up l.value l.part
    (g.M.SharedMemory.answers l.fn.memory) (g.M.SharedMemory.answers l.memory)
