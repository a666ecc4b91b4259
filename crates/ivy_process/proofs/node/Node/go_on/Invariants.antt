use Rattle.std.proofs.Common.{◌≡◌}
use Rattle.ivy_site.proofs.Receiving.{WentSoOften}
use Rattle.ivy_process.specs.NodeLogs.{AddsEvents}
use Rattle.ivy_process.proofs.node.Node.go_on.Given as goal

-- the site went on once each time
abbrev pub invariant-loop : goal.invariant-loop
invariant-loop l = record {
  on : AddsEvents l.initial.self l.self;
  far : WentSoOften l.from l.counter l.initial.self.site l.self.site;
  config : l.self.site.config ≡ l.initial.self.site.config;
}
