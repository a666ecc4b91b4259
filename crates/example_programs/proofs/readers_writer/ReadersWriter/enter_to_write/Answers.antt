use Rattle.std.proofs.Common.{ℕ, subst}
use Rattle.example_programs.specs.Adding.{AddsSome}
use Rattle.example_programs.specs.Readers.{Counts, Takes}
use Rattle.example_programs.proofs.Reading.{counts_on}
use Rattle.example_programs.proofs.Repeating.{at_last, in_vain}
use Rattle.example_programs.proofs.readers_writer.ReadersWriter.enter_to_write.Goals as goal

pub loop-preserved : goal.loop-preserved
loop-preserved g c =
    in_vain (Counts c.args.self.now.addr (λ readers. readers)) _ _ _ c.loop.invariant
    (counts_on c.args.self.now.addr (λ readers. readers) c.in_ok-readers.readers _ _ _
    c.in_ok-readers.ensures c.in_ok-store.ensures.asks)

pub returns-then-readers-eq0 : goal.returns-then-readers-eq0
returns-then-readers-eq0 g c =
    at_last (Counts c.args.self.now.addr (λ readers. readers)) (Takes c.args.self.now.addr 0) _ _ _
    c.loop.invariant
    (subst (λ (n : ℕ). AddsSome (Takes c.args.self.now.addr n)
    (g.M.SharedMemory.answers c.loop.memory) (g.M.SharedMemory.answers c.take.new.memory))
    c.if-readers-eq0.true c.in_ok-readers.ensures)
