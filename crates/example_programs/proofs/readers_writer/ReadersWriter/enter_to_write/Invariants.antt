use Rattle.example_programs.specs.Adding.{AddsVain}
use Rattle.example_programs.specs.Readers.{Counts}
use Rattle.example_programs.proofs.readers_writer.ReadersWriter.enter_to_write.Given as goal

abbrev pub invariant-loop : goal.invariant-loop
invariant-loop g l =
    AddsVain (Counts l.self.addr (λ readers. readers)) (g.M.SharedMemory.answers l.fn.memory)
    (g.M.SharedMemory.answers l.memory)
