use Rattle.std.proofs.Common.{◌≡◌, take}
use Rattle.example_programs.specs.Pipeline.{Feeds}
use Rattle.example_programs.proofs.pipeline.Pipeline.feed.Given as goal

abbrev pub invariant-loop-value : goal.invariant-loop-value
invariant-loop-value g l = record {
  queue : l.sender.queue ≡ l.self.first;
  next : l.sender.next ≡ l.value-index;
  feeds : Feeds l.self.first l.self.second (take l.value-index l.self.values.items)
      (g.M.SharedMemory.answers l.memory);
}
