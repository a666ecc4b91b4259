use Rattle.ivy_ether.specs.Handings.{handing_all}
use Rattle.ivy_host.specs.stated.Hosts.{host_rules}
use Rattle.ivy_host.specs.stated.Managers.{managed_ops}
use Rattle.ivy_ether.specs.Programs.{beginning}
use Rattle.ivy_ether.proofs.Hosts.{is_handing}
use Rattle.ivy_ether.proofs.Keeps.{begins, forks}
use Rattle.ivy_ether.proofs.ether.Ether.laid.Goals as goal

pub ruled-requires-clause-rule : goal.ruled-requires-clause-rule
ruled-requires-clause-rule g c =
    begins (host_rules managed_ops) g.S.Setup.config
    (beginning g.S.Setup.config g.S.Setup.opened g.S.Setup.programs)
    handing_all is_handing

pub another-token-requires-clause-rule : goal.another-token-requires-clause-rule
another-token-requires-clause-rule g c =
    forks (host_rules managed_ops) g.S.Setup.config
    (beginning g.S.Setup.config g.S.Setup.opened g.S.Setup.programs)
    handing_all _ _
