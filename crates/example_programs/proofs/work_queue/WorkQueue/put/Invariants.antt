use Rattle.example_programs.specs.Adding.{AddsVain}
use Rattle.example_programs.specs.Jobs.{IsFull}
use Rattle.example_programs.proofs.work_queue.WorkQueue.put.Given as goal

abbrev pub invariant-loop : goal.invariant-loop
invariant-loop g l =
    AddsVain (IsFull l.self) (g.M.SharedMemory.answers l.fn.memory)
    (g.M.SharedMemory.answers l.memory)
