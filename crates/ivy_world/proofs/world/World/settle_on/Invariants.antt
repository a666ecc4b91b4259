use Rattle.std.proofs.Common.{◌≡◌, ◌<◌, false}
use Rattle.ivy_host.specs.stated.Managers.{managed_ops}
use Rattle.proof_worlds.specs.stated.Still.{IsStill}
use Rattle.ivy_world.specs.WorldRounds.{IsInRound}
use Rattle.ivy_world.proofs.Settled.{SettlesSoFar}
use Rattle.ivy_world.proofs.world.World.settle_on.Given as goal

-- where the world stood still, the first round goes on
abbrev pub invariant-loop-made : goal.invariant-loop-made
invariant-loop-made g l = record {
  so_far : SettlesSoFar l.initial.self l.self l.made;
  round : IsInRound l.self l.round;
  rest : IsStill managed_ops l.initial.self.world → (l.self ≡ l.initial.self)
      × (l.round.turn ≡ l.made) × (l.round.stirred ≡ false)
      × (l.made < l.initial.self.config.nodes);
}
