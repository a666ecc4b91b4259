use Rattle.std.proofs.Common.{arith, [], ◌∷◌, ◌∙◌}
use Rattle.ivy_moves.specs.declared.Move.TheVariants.{Pulse}
use Rattle.ivy_play.proofs.Drawing.{drawn_stay}
use Rattle.ivy_play.proofs.Ending.{cores_more, pulse_cores}
use Rattle.ivy_play.proofs.rested.spend.Goals as goal

pub loop-preserved : goal.loop-preserved
loop-preserved g c =
    let was = c.loop.invariant in
    let made = c.in_ok-play_move.ensures in
    let new = c.play_move.new.world in
    let longer = made.longer in
    let spent = was.spent in
    let before = was.longer in
    let more = c.loop-test.true in
    record {
      played = λ k p. made.played k (was.played k p);
      cores =
          cores_more c.args.world.now.world c.loop.world.world new.world was.cores
          (pulse_cores c.loop.world.config c.loop.world.world new.world 0 1 made.made);
      config = made.stays.0 ∙ was.config;
      spent = omega (arith, longer, spent);
      longer = omega (arith, longer, before);
      few = omega (arith, longer, spent, more);
      first =
          drawn_stay c.args.drawn c.loop.moves.items (Pulse 0 1 ∷ []) c.play_move.new.moves.items
          made.listed (omega (arith, spent)) ∙ was.first;
    }
