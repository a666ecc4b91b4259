use Rattle.std.proofs.Common.{◌≡◌, ◌+◌, drop}
use Rattle.ivy_charts.specs.Heard.{kept}
use Rattle.ivy_charts.proofs.receivers.Receivers.held_after.Given as goal

abbrev pub invariant-loop-held : goal.invariant-loop-held
invariant-loop-held l = kept (drop l.held-index l.self.held.items) l.to l.source (l.number + 1)
    ≡ kept l.self.held.items l.to l.source (l.number + 1)
