use Rattle.std.proofs.Common.{◌≡◌, ◌++◌, ◌≤◌, ◌-◌}
use Rattle.ivy_moves.specs.Marks.{turns}
use Rattle.ivy_process.specs.NodeLogs.{KeepsCalls}
use Rattle.ivy_process.proofs.sites.make_turns.Given as goal

abbrev pub invariant-loop-made : goal.invariant-loop-made
invariant-loop-made g l = record {
  within : l.made ≤ l.most;
  made : l.site.events ≡ l.initial.site.events ++ turns l.made;
  kept : KeepsCalls l.initial.site l.site;
}

abbrev pub decreases-loop-made : goal.decreases-loop-made
decreases-loop-made g l = l.most - l.made
