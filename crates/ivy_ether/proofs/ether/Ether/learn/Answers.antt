use Rattle.crossbeam_queue.specs.Passes.{view}
use Rattle.ivy_ether.specs.Handings.{handing_all}
use Rattle.ivy_host.specs.stated.Hosts.{host_rules}
use Rattle.ivy_host.specs.stated.Managers.{managed_ops}
use Rattle.ivy_ether.specs.Programs.{beginning}
use Rattle.ivy_ether.proofs.Keeps.{learns}
use Rattle.ivy_ether.proofs.ether.Ether.learn.Goals as goal

pub learn_as-requires-clause-rule : goal.learn_as-requires-clause-rule
learn_as-requires-clause-rule g c =
    let config = g.S.Setup.config in
    let opened = g.S.Setup.opened in
    let programs = g.S.Setup.programs in
    learns (host_rules managed_ops) config (beginning config opened programs) handing_all _
    (view c.pass.inside.token)
