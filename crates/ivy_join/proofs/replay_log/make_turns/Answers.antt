-- One turn more, or one that does nothing.
use Rattle.std.proofs.Common.{rules, ◌≡◌, [], subst, arith}
use Rattle.ivy_moves.specs.Marks.{turns}
use Rattle.ivy_site.specs.declared.turn.Turn.TheVariants.{Moved}
use Rattle.ivy_site.specs.Sites.{AfterTurn}
use Rattle.ivy_join.specs.Exact.{Makes}
use Rattle.ivy_join.proofs.Exactly.{never-turns, no-turn-by, one-more-makes}
use Rattle.ivy_join.proofs.EventSteps.{goes_further, turned, one_more}
use Rattle.ivy_join.proofs.replay_log.make_turns.Goals as goal

pub returns-in-Err : goal.returns-in-Err
returns-in-Err g c = record {
  on = λ sent. goes_further sent c.args.site.now c.loop-made.site c.program_turn.new.self
      (c.loop-made.invariant.on sent)
      (turned sent c.program_turn.result c.loop-made.site c.program_turn.new.self
      c.program_turn.ensures.done);
  made = tt;
  exact = tt;
}

pub returns-in-Ok-clause-on : goal.returns-in-Ok-clause-on
returns-in-Ok-clause-on g c =
    λ sent. goes_further sent c.args.site.now c.loop-made.site c.program_turn.new.self
    (c.loop-made.invariant.on sent)
    (turned sent c.program_turn.result c.loop-made.site c.program_turn.new.self
    c.program_turn.ensures.done)

pub returns-in-Ok-2-clause-on : goal.returns-in-Ok-2-clause-on
returns-in-Ok-2-clause-on g c =
    λ sent. goes_further sent c.args.site.now c.loop-made.site c.program_turn.new.self
    (c.loop-made.invariant.on sent)
    (turned sent c.program_turn.result c.loop-made.site c.program_turn.new.self
    c.program_turn.ensures.done)

pub loop-made-preserved : goal.loop-made-preserved
loop-made-preserved g c =
    let moved : AfterTurn Moved c.loop-made.site c.program_turn.new.self = search rules in record {
      on = λ sent. goes_further sent c.args.site.now c.loop-made.site c.program_turn.new.self
          (c.loop-made.invariant.on sent)
          (turned sent c.program_turn.result c.loop-made.site c.program_turn.new.self
          c.program_turn.ensures.done);
      within = omega arith;
      made = one_more c.args.site.now.events c.loop-made.made c.loop-made.site c.program_turn.new.self
          c.loop-made.invariant.made moved;
      exact = one-more-makes c.args.site.now c.loop-made.site c.program_turn.new.self c.loop-made.made
          (c.loop-made.invariant.on []).config c.loop-made.invariant.exact moved;
    }

pub returns-in-Ok-clause-exact : goal.returns-in-Ok-clause-exact
returns-in-Ok-clause-exact g c =
    λ limits waits. never-turns c.args.site.now c.loop-made.site c.loop-made.made c.args.count
    c.loop-made-test.true (c.loop-made.invariant.on []).config c.loop-made.invariant.exact
    (no-turn-by c.program_turn.result c.loop-made.site c.program_turn.new.self c.program_turn.ensures.done
    c.program_turn.ensures.spent (search rules) (search rules))

pub returns-in-Ok-2-clause-exact : goal.returns-in-Ok-2-clause-exact
returns-in-Ok-2-clause-exact g c =
    λ limits waits. never-turns c.args.site.now c.loop-made.site c.loop-made.made c.args.count
    c.loop-made-test.true (c.loop-made.invariant.on []).config c.loop-made.invariant.exact
    (no-turn-by c.program_turn.result c.loop-made.site c.program_turn.new.self c.program_turn.ensures.done
    c.program_turn.ensures.spent (search rules) (search rules))

pub returns-clause-exact : goal.returns-clause-exact
returns-clause-exact g c =
    let all : c.loop-made.made ≡ c.args.count = omega arith in
    λ limits. subst (λ n. Makes (turns n) c.args.site.now c.loop-made.site) all c.loop-made.invariant.exact
