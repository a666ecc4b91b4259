use Rattle.std.proofs.Common.{◌<◌, length, refl, ◌∙◌, arith}
use Rattle.ivy_link.specs.stated.Pulsed.{owing_nothing}
use Rattle.ivy_link.proofs.Peers.{seen-peer}
use Rattle.ivy_link.proofs.link.Link.pulsed.Goals as goal

pub returns-clause-after : goal.returns-clause-after
returns-clause-after g c =
    let there : c.from.result < length c.args.self.now.peers =
    omega (arith, c.requires.to, c.from.ensures) in
    seen-peer c.args.self.now c.self.inside.me c.self.inside.sides.items c.self.view_is
    c.from.result c.index_mut.result.now c.owe_nothing.new.self owing_nothing there
    c.index_mut.ensures.value c.owe_nothing.ensures.peer c.owe_nothing.ensures.held
    ∙ rw c.from.ensures refl
