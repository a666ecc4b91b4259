use Rattle.std.proofs.Common.{◌≡◌}
use Rattle.ivy_embedded.proofs.Onward.{HasGone}
use Rattle.ivy_embedded.proofs.embedded.Embedded.go_on.Given as goal

-- the node went on once each time
abbrev pub invariant-loop : goal.invariant-loop
invariant-loop l = record {
  gone : HasGone l.from l.counter l.initial.self l.self;
  config : l.self.site.config ≡ l.initial.self.site.config;
}
