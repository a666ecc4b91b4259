use Rattle.std.proofs.Common.{◌≡◌, ◌++◌, ◌≤◌, ◌-◌, ℕ, List}
use Rattle.ivy_moves.specs.Marks.{turns}
use Rattle.ivy_join.specs.Exact.{Makes}
use Rattle.ivy_join.specs.ReplaySites.{GoesOnBy}
use Rattle.ivy_join.proofs.replay_log.make_turns.Given as goal

abbrev pub invariant-loop-made : goal.invariant-loop-made
invariant-loop-made g l = record {
  on : (sent : List (List ℕ)) → GoesOnBy sent l.initial.site l.site;
  within : l.made ≤ l.count;
  made : l.site.events ≡ l.initial.site.events ++ turns l.made;
  exact : Makes (turns l.made) l.initial.site l.site;
}

abbrev pub decreases-loop-made : goal.decreases-loop-made
decreases-loop-made g l = l.count - l.made
