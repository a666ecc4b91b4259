use Rattle.ivy_sync.specs.Failing.{HasAsked}
use Rattle.ivy_sync.proofs.lock.Lock.acquire.Given as goal

abbrev pub invariant-loop : goal.invariant-loop
invariant-loop g l =
    HasAsked l.self.addr l.counter (g.M.SharedMemory.answers l.fn.memory)
    (g.M.SharedMemory.answers l.memory)
