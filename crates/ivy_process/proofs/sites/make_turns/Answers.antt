use Rattle.std.proofs.Common.{rules, arith, refl, sym, append-nil}
use Rattle.ivy_site.specs.declared.turn.Turn.TheVariants.{Moved}
use Rattle.ivy_site.specs.Sites.{AfterTurn}
use Rattle.ivy_join.proofs.EventSteps.{one_more}
use Rattle.ivy_process.proofs.Kept.{keeps-further, keeps-same, turn-keeps}
use Rattle.ivy_process.proofs.sites.make_turns.Goals as goal

pub loop-made-init : goal.loop-made-init
loop-made-init g c = record {
  within = omega arith;
  made = sym (append-nil c.args.site.now.events);
  kept = keeps-same c.args.site.now c.args.site.now refl;
}

pub loop-made-preserved : goal.loop-made-preserved
loop-made-preserved g c =
    let moved : AfterTurn Moved c.loop-made.site c.program_turn.new.self = search rules in record {
      within = omega arith;
      made = one_more c.args.site.now.events c.loop-made.made c.loop-made.site c.program_turn.new.self
          c.loop-made.invariant.made moved;
      kept = keeps-further c.args.site.now c.loop-made.site c.program_turn.new.self c.loop-made.invariant.kept
          (turn-keeps c.loop-made.site c.program_turn.new.self moved);
    }
