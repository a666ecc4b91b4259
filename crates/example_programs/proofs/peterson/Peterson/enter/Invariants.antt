use Rattle.example_programs.proofs.Trying.{HasTried}
use Rattle.example_programs.proofs.peterson.Peterson.enter.Given as goal

abbrev pub invariant-loop : goal.invariant-loop
invariant-loop g l =
    HasTried l.self l.me (g.M.SharedMemory.answers l.fn.memory)
    (g.M.SharedMemory.answers l.memory)
