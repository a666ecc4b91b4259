use Rattle.std.proofs.Common.{◌≡◌, ◌<◌, length, sym, ap, ◌∙◌, arith, refl}
use Rattle.ivy_link.specs.Holding.{Holding, window_at}
use Rattle.ivy_link.specs.Windows.{without_first}
use Rattle.ivy_link.proofs.Peers.{seen-held, seen-window}
use Rattle.ivy_link.proofs.link.Link.take_ready.Goals as goal

pub returns-clause-after : goal.returns-clause-after
returns-clause-after g c =
    let h : Holding = c.args.self.now in
    let there : c.from.result < length h.peers = omega (arith, c.requires.from, c.from.ensures) in
    let side = c.index_mut.result.now in
    let read = c.index_mut.ensures.value in
    let window : window_at h c.from.result ≡ side.held =
    seen-window h c.self.inside.me c.self.inside.sides.items c.self.view_is c.from.result side
    there read in
    seen-held h c.self.inside.me c.self.inside.sides.items c.self.view_is c.from.result side
    c.take_ready.new.self (without_first (window_at h c.from.result)) there read
    c.take_ready.ensures.peer (c.take_ready.ensures.held ∙ ap without_first (sym window))
    ∙ rw c.from.ensures refl
