use Rattle.std.proofs.Common.{◌≡◌}
use Rattle.example_programs.specs.RollCall.{Calls}
use Rattle.example_programs.proofs.roll_call.RollCall.call.Given as goal

abbrev pub invariant-loop : goal.invariant-loop
invariant-loop g l = record {
  queue : l.receiver.queue ≡ l.self.sender.queue;
  next : l.receiver.next ≡ l.counter;
  calls : Calls l.self l.counter (g.M.SharedMemory.answers l.memory) l.out.items;
}
