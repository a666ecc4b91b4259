use Rattle.std.proofs.Common.{ap, sym}
use Rattle.ivy_model.specs.declared.Config.{Config}
use Rattle.ivy_embedded.specs.Nodes.{Embedded}
use Rattle.ivy_embedded.specs.Peers.{KeepsFor}
use Rattle.ivy_embedded.proofs.Gathered.{told_bits}
use Rattle.ivy_embedded.proofs.embedded.Embedded.kept_set.Goals as goal

pub returns : goal.returns
returns c =
    told_bits KeepsFor c.self.inside.site c.args.self.now.site c.config-config.result.nodes
    c.bits.result c.peers_of.result (sym (ap (λ (e : Embedded). e.site) c.self.view_is))
    (ap (λ (k : Config). k.nodes) c.config-config.ensures.is)
    c.config-config.ensures.limits.nodes_to c.peers_of.ensures c.bits.ensures
