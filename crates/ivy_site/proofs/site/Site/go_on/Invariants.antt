use Rattle.std.proofs.Common.{◌≤◌, ◌+◌, ◌*◌, length}
use Rattle.ivy_coherence.specs.EventLimits.{most_posted}
use Rattle.ivy_site.specs.Sites.{IsSameNode}
use Rattle.ivy_site.proofs.Receiving.{WentSoOften}
use Rattle.ivy_site.proofs.site.Site.go_on.Given as goal

-- the site went on once each time
abbrev pub invariant-loop : goal.invariant-loop
invariant-loop g l = record {
  same : IsSameNode l.initial.self l.self;
  on : WentSoOften l.from l.counter l.initial.self l.self;
  few : length l.self.waiting ≤ length l.initial.self.waiting + most_posted * l.counter;
}
