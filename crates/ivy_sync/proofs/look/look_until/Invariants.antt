use Rattle.ivy_sync.specs.Failing.{HasLooked}
use Rattle.ivy_sync.proofs.look.look_until.Given as goal

abbrev pub invariant-loop-looks : goal.invariant-loop-looks
invariant-loop-looks g l =
    HasLooked l.addr l.least l.looks (g.M.SharedMemory.answers l.fn.memory)
    (g.M.SharedMemory.answers l.memory)
