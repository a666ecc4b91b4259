use Rattle.std.proofs.Common.{◌≡◌, ◌+◌, ◌*◌, ◌++◌, List}
use Rattle.ivy_calls.specs.declared.answer.Answer.{Answer}
use Rattle.ivy_sync.specs.meeting.TreeBarriers.{Gathered, phase_of, raised_at}
use Rattle.ivy_sync.proofs.tree_barrier.TreeBarrier.gather.Given as goal

abbrev pub invariant-loop-up : goal.invariant-loop-up
invariant-loop-up g l =
    (gathered : List Answer)
    × Gathered (raised_at l.self) (phase_of l.self) (4 * l.me + 1) l.up gathered
    × (g.M.SharedMemory.answers l.memory ≡ g.M.SharedMemory.answers l.fn.memory ++ gathered)
