use Rattle.std.proofs.Common.{◌≡◌, length, take}
use Rattle.ivy_logs.specs.Entries.{answers_in, events_in}
use Rattle.ivy_join.specs.ReplaySites.{taken_by}
use Rattle.ivy_join.specs.Remade.{GoesOnByEntries, StandFirst}
use Rattle.ivy_join.proofs.restart.replay.Given as goal

abbrev pub invariant-loop-place : goal.invariant-loop-place
invariant-loop-place g l = record {
  on : GoesOnByEntries (taken_by (events_in l.log)) (take l.place l.log) l.fn.site l.site;
  first : StandFirst (answers_in (take l.place l.log)) l.site.node.core.history;
  many : l.told ≡ length (answers_in (take l.place l.log));
}
