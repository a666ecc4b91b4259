use Rattle.std.proofs.Common.{◌<◌, ◌+◌, Ok, refl, sym, ap, subst, ◌∙◌, arith}
use Rattle.ivy_host.specs.stated.Managers.{managed_ops}
use Rattle.proof_worlds.specs.stated.Still.{IsStill}
use Rattle.ivy_world.specs.declared.round.Round.{Round}
use Rattle.ivy_world.specs.WorldRounds.{RestsOn}
use Rattle.ivy_world.specs.declared.rest.Rest.TheVariants.{Still}
use Rattle.proof_worlds.specs.stated.RunState.{Run}
use Rattle.ivy_world.proofs.Settled.{SettlesSoFar, none_made, one_made, settled_by, refused_after, first_round}
use Rattle.ivy_world.proofs.world.World.settle_on.Goals as goal

pub loop-made-init : goal.loop-made-init
loop-made-init g c = record {
  so_far = none_made c.args.self.now;
  round = rw c.first-round.ensures
      (first_round c.args.self.now (omega (arith, c.requires.limits.nodes_from)));
  rest = λ still. (
    refl,
    ap (λ (r : Round). r.turn) c.first-round.ensures,
    ap (λ (r : Round). r.stirred) c.first-round.ensures,
    omega (arith, c.requires.limits.nodes_from),
  );
}

pub returns-in-Ok-true-clause-made : goal.returns-in-Ok-true-clause-made
returns-in-Ok-true-clause-made g c =
    settled_by c.args.moves (c.loop-made.made + 1) c.args.self.now c.settle_once.new.self Still
    (omega (arith, c.loop-made-test.true)) (λ is. absurd cc)
    (one_made c.args.self.now c.loop-made.self c.settle_once.new.self c.loop-made.made
    c.loop-made.invariant.so_far c.in-Ok-true.ensures.made c.in-Ok-true.ensures.stays)

pub returns-in-Err-clause-made : goal.returns-in-Err-clause-made
returns-in-Err-clause-made g c =
    let refused = c.in-Err.ensures.refused in
    refused_after c.args.moves c.loop-made.made c.args.self.now c.settle_once.new.self
    c.in-Err.fault c.loop-made-test.true
    (subst (λ (r : Run). SettlesSoFar c.args.self.now r c.loop-made.made) (sym refused.1)
    c.loop-made.invariant.so_far) refused.2

pub loop-made-preserved : goal.loop-made-preserved
loop-made-preserved g c = record {
  so_far = one_made c.args.self.now c.loop-made.self c.settle_once.new.self c.loop-made.made
      c.loop-made.invariant.so_far c.in-Ok-false.ensures.made c.in-Ok-false.ensures.stays;
  round = c.in-Ok-false.ensures.round;
  rest = λ still.
      let at = c.loop-made.invariant.rest still in
      let count = at.1 in
      let x : RestsOn c.loop-made.self c.loop-made.round c.settle_once.new.self
      c.settle_once.new.round = c.in-Ok-false.ensures.rests (ap Ok c.in-Ok-false.field-0-test)
      (subst (λ (r : Run). IsStill managed_ops r.world) (sym at.0) still) at.2 in
      let turn = x.turn in
      let within : c.settle_once.new.round.turn < c.args.self.now.config.nodes =
      subst (λ (r : Run). c.settle_once.new.round.turn < r.config.nodes) at.0 x.within in (
        x.same ∙ at.0,
        omega (arith, turn, count),
        x.idle,
        omega (arith, turn, count, within),
      );
}

pub returns-clause-found : goal.returns-clause-found
returns-clause-found g c =
    λ ok still. let below = (c.loop-made.invariant.rest still).3 in
    omega (arith, below, c.loop-made-test.false)
