use Rattle.std.proofs.Common.{sym, subst}
use Rattle.crossbeam_queue.specs.Passes.{view}
use Rattle.ivy_ether.specs.Handings.{handing_all}
use Rattle.ivy_host.specs.stated.Hosts.{host_rules}
use Rattle.ivy_host.specs.stated.Managers.{managed_ops}
use Rattle.ivy_ether.specs.Held.{Held}
use Rattle.ivy_ether.specs.Programs.{beginning, MayGive}
use Rattle.ivy_ether.proofs.Keeps.{gives}
use Rattle.ivy_ether.proofs.ether.Ether.give.Goals as goal

pub another-requires-clause-rule : goal.another-requires-clause-rule
another-requires-clause-rule g c =
    let config = g.S.Setup.config in
    let opened = g.S.Setup.opened in
    let programs = g.S.Setup.programs in
    gives (host_rules managed_ops) config (beginning config opened programs) handing_all _
    (view c.pass.inside.token) g.E.Given.events
    (subst (λ (h : Held). MayGive config opened programs h.known g.E.Given.events)
    (sym c.pass.view_is) c.requires.events)
