use Rattle.std.proofs.Common.{◌≡◌, length}
use Rattle.ivy_sync.specs.queueing.Queues.{LeavesAlone, TakesAll}
use Rattle.example_programs.proofs.pipeline.Pipeline.collect.Given as goal

abbrev pub invariant-loop : goal.invariant-loop
invariant-loop g l = record {
  queue : l.receiver.queue ≡ l.self.second;
  next : l.receiver.next ≡ l.counter;
  long : length l.out.items ≡ l.counter;
  takes : TakesAll l.self.second 0 l.out.items (g.M.SharedMemory.answers l.memory);
  alone : LeavesAlone l.self.first (g.M.SharedMemory.answers l.memory);
}
