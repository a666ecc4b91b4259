use Rattle.std.proofs.Common.{[], ◌∷◌, refl, ap}
use Rattle.example_programs.specs.Readers.{IsGiven, IsRefused, asks_for}
use Rattle.example_programs.proofs.Repeating.{at_last, in_vain}
use Rattle.example_programs.proofs.readers_writer.ReadersWriter.take.Goals as goal

pub loop-preserved : goal.loop-preserved
loop-preserved g c =
    in_vain (IsRefused c.args.self.now.addr) _ _ _ c.loop.invariant
    (record {
      added = asks_for c.args.self.now.addr c.in_ok-found.found ∷ [];
      are = ap (λ n. asks_for c.args.self.now.addr n ∷ []) c.if-found.false;
      whole = c.in_ok-found.ensures.asks;
    })

pub returns-then-found : goal.returns-then-found
returns-then-found g c =
    at_last (IsRefused c.args.self.now.addr) (IsGiven c.args.self.now.addr c.in_ok-found.found) _ _ _
    c.loop.invariant
    (record {
      added = asks_for c.args.self.now.addr c.in_ok-found.found ∷ [];
      are = (c.if-found.true, refl);
      whole = c.in_ok-found.ensures.asks;
    })
