use Rattle.std.proofs.Common.{◌≡◌, take}
use Rattle.proof_worlds.specs.stated.Reached.{IsLedTo}
use Rattle.ivy_world.proofs.world.World.make_each.Given as goal

-- the moves so far were made
abbrev pub invariant-loop-place : goal.invariant-loop-place
invariant-loop-place g l = record {
  config : l.self.config ≡ l.initial.self.config;
  programs : l.self.programs ≡ l.initial.self.programs;
  opened : l.self.opened ≡ l.initial.self.opened;
  led : IsLedTo l.initial.self.config l.initial.self.world (take l.place l.moves) l.self.world;
}
