use Rattle.ivy_sync.proofs.meeting.Folded.{HasFolded}
use Rattle.ivy_sync.proofs.reduction.Reduction.fold.Given as goal

abbrev pub invariant-loop-node : goal.invariant-loop-node
invariant-loop-node g l =
    HasFolded (λ p x q. goal.F-post g l.f p x q) l.self.addr l.node l.initial.out l.out
    (g.M.SharedMemory.answers l.initial.memory) (g.M.SharedMemory.answers l.memory)
