use Rattle.std.proofs.Common.{◌≡◌, ◌<◌, ◌≤◌, false, length, map}
use Rattle.std.specs.Prelude.{IsTrue}
use Rattle.ivy_world.specs.WorldSites.{programs_of}
use Rattle.ivy_join.specs.Calls.{HaveHanded}
use Rattle.ivy_join.specs.Exact.{left_of, AreMadeTo, HaveSent}
use Rattle.ivy_join.specs.ReplaySites.{ArePlayed}
use Rattle.ivy_join.proofs.Counted.{AreStuckTo}
use Rattle.ivy_join.proofs.replay_log.play_round.Given as goal

-- fewer entries are left where a log went on; else the logs so far are stuck
abbrev pub invariant-loop-node : goal.invariant-loop-node
invariant-loop-node g l = record {
  played : ArePlayed l.config l.opening l.sites.items l.sent;
  handed : HaveHanded (map (λ x. x.entries.items) l.logs) l.initial.made l.made
      (programs_of l.initial.sites.items) (programs_of l.sites.items);
  long : length l.made ≡ length l.initial.made;
  count : length l.sites.items ≡ length l.initial.sites.items;
  have : HaveSent l.sent l.sites.items;
  each : AreMadeTo (map (λ x. x.entries.items) l.logs) l.made l.sites.items;
  few : left_of (map (λ x. x.entries.items) l.logs) l.made
      ≤ left_of (map (λ x. x.entries.items) l.logs) l.initial.made;
  less : IsTrue l.went → left_of (map (λ x. x.entries.items) l.logs) l.made
      < left_of (map (λ x. x.entries.items) l.logs) l.initial.made;
  stuck : l.went ≡ false → AreStuckTo l.node l.sent (map (λ x. x.entries.items) l.logs) l.made;
}
