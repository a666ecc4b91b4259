use Rattle.std.proofs.Common.{◌≡◌}
use Rattle.example_programs.proofs.Piping.{IsRelayed}
use Rattle.example_programs.proofs.pipeline.Pipeline.relay.Given as goal

abbrev pub invariant-loop : goal.invariant-loop
invariant-loop g l = record {
  taking : l.receiver.queue ≡ l.self.first;
  sending : l.sender.queue ≡ l.self.second;
  taken : l.receiver.next ≡ l.counter;
  sent : l.sender.next ≡ l.counter;
  relayed : IsRelayed (g.S.Stage.gives l.self.stage) l.self.first l.self.second l.counter
      (g.M.SharedMemory.answers l.memory);
}
