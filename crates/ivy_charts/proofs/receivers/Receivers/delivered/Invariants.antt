use Rattle.std.proofs.Common.{◌≡◌, drop}
use Rattle.ivy_charts.specs.Heard.{noted}
use Rattle.ivy_charts.proofs.receivers.Receivers.delivered.Given as goal

abbrev pub invariant-loop-pair : goal.invariant-loop-pair
invariant-loop-pair l = noted (drop l.pair-index l.self.delivered.items) l.to l.source
    ≡ noted l.self.delivered.items l.to l.source
