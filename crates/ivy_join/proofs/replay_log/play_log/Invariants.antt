use Rattle.std.proofs.Common.{◌≡◌, ◌≢◌, ℕ, length}
use Rattle.ivy_world.specs.WorldSites.{programs_of}
use Rattle.ivy_join.specs.Calls.{PlaysOn}
use Rattle.ivy_join.specs.Exact.{HaveSent, IsMadeTo}
use Rattle.ivy_join.specs.ReplaySites.{events_at, ArePlayed}
use Rattle.ivy_join.proofs.replay_log.play_log.Given as goal

-- the entries before the place were made; where none was, all is as it was
abbrev pub invariant-loop-place : goal.invariant-loop-place
invariant-loop-place g l = record {
  played : ArePlayed l.config l.opening l.sites.items l.sent;
  handed : PlaysOn l.node l.log.entries.items l.initial.made l.made (programs_of l.initial.sites.items)
      (programs_of l.sites.items);
  count : length l.sites.items ≡ length l.initial.sites.items;
  at : l.made ≡ l.place;
  have : HaveSent l.sent l.sites.items;
  here : IsMadeTo l.log.entries.items l.place (events_at l.sites.items l.node);
  elsewhere : (i : ℕ) → i ≢ l.node → events_at l.sites.items i ≡ events_at l.initial.sites.items i;
  sites : l.place ≡ l.initial.place → l.sites.items ≡ l.initial.sites.items;
  strings : l.place ≡ l.initial.place → l.sent ≡ l.initial.sent;
}
