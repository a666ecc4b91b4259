use Rattle.std.proofs.Common.{◌≡◌, length, map, replicate, vec_len}
use Rattle.ivy_world.specs.WorldSites.{programs_of}
use Rattle.ivy_join.specs.Calls.{HaveHanded}
use Rattle.ivy_join.specs.Exact.{left_of, AreMadeTo, HaveSent}
use Rattle.ivy_join.specs.ReplaySites.{ArePlayed}
use Rattle.ivy_join.proofs.replay_log.play.Given as goal

-- each site made so many entries of its log, and all that they sent was collected
abbrev pub invariant-loop-made : goal.invariant-loop-made
invariant-loop-made g l = record {
  played : ArePlayed l.config l.opening l.sites.items l.sent;
  handed : HaveHanded (map (λ x. x.entries.items) l.logs) (replicate (length l.logs) 0) l.made.items
      (programs_of l.initial.sites.items) (programs_of l.sites.items);
  count : length l.sites.items ≡ length l.initial.sites.items;
  made : vec_len l.made ≡ length l.initial.sites.items;
  have : HaveSent l.sent l.sites.items;
  each : AreMadeTo (map (λ x. x.entries.items) l.logs) l.made.items l.sites.items;
}

-- the entries that are left
abbrev pub decreases-loop-made : goal.decreases-loop-made
decreases-loop-made g l = left_of (map (λ x. x.entries.items) l.logs) l.made.items
