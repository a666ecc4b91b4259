-- One move more is made, and its lines are printed.
use Rattle.std.proofs.Common.{◌∙◌, arith}
use Rattle.ivy_simulation.proofs.Printing.{adds-more, adds-on}
use Rattle.ivy_simulation.proofs.Leading.{led_on}
use Rattle.ivy_simulation.proofs.trace.trace_moves.Goals as goal

pub loop-before-preserved : goal.loop-before-preserved
loop-before-preserved g c = record {
  config = c.in_ok-trace_move.ensures.config ∙ c.loop-before.invariant.config;
  made = led_on _ _ _ _ _ c.args.moves.now c.loop-before.before _
      (omega (arith, c.loop-before-test.true)) c.loop-before.invariant.config
      c.loop-before.invariant.made c.in_ok-trace_move.ensures.made;
  printed =
      adds-on _ _ _
      (adds-more _ _ _ _ c.loop-before.invariant.printed c.in_ok-writeln.ensures.bytes)
      c.in_ok-trace_move.ensures.printed;
}
