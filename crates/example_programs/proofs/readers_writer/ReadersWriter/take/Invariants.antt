use Rattle.example_programs.specs.Adding.{AddsVain}
use Rattle.example_programs.specs.Readers.{IsRefused}
use Rattle.example_programs.proofs.readers_writer.ReadersWriter.take.Given as goal

abbrev pub invariant-loop : goal.invariant-loop
invariant-loop g l =
    AddsVain (IsRefused l.self.addr) (g.M.SharedMemory.answers l.fn.memory)
    (g.M.SharedMemory.answers l.memory)
