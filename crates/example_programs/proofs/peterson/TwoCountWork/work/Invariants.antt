use Rattle.example_programs.specs.Peterson.{AreRounds}
use Rattle.example_programs.proofs.peterson.TwoCountWork.work.Given as goal

abbrev pub invariant-loop : goal.invariant-loop
invariant-loop g l = AreRounds l.self l.me l.counter (g.M.SharedMemory.answers l.memory)
