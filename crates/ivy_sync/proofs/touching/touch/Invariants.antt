use Rattle.ivy_sync.specs.Touching.{HasTouched}
use Rattle.ivy_sync.proofs.touching.touch.Given as goal

abbrev pub invariant-loop-page : goal.invariant-loop-page
invariant-loop-page g l =
    HasTouched l.addr l.apart l.page (g.M.SharedMemory.answers l.fn.memory)
    (g.M.SharedMemory.answers l.memory)
