use Rattle.std.proofs.Common.{◌≡◌, ◌<◌, length, sym, ap, ◌∙◌, arith}
use Rattle.ivy_link.specs.stated.Linked.{Peer, peer_at}
use Rattle.ivy_link.specs.Holding.{Holding, link_of, window_at}
use Rattle.ivy_link.specs.Windows.{Window}
use Rattle.ivy_link.proofs.Peers.{view-read, seen-held, seen-window, window_held, holds-here}
use Rattle.ivy_link.proofs.link.Link.hold.Goals as goal

pub returns-clause-after : goal.returns-clause-after
returns-clause-after g c =
    let h : Holding = c.args.self.now in
    let mine : c.args.frame.now.dest ≡ h.me =
    c.if-frame-self.false ∙ ap (λ (k : Holding). k.me) c.self.view_is in
    let lt : c.args.frame.now.source < length h.peers = c.requires.source mine in
    let from : c.from.result ≡ c.args.frame.now.source = c.from.ensures in
    let there : c.from.result < length h.peers = omega (arith, lt, from) in
    let side = c.index_mut.result.now in
    let read = c.index_mut.ensures.value in
    let peer : peer_at (link_of h) c.from.result ≡ side.peer =
    view-read (link_of h) c.self.inside.me c.self.inside.sides.items (ap link_of c.self.view_is)
    c.from.result side there read in
    let window : window_at h c.from.result ≡ side.held =
    seen-window h c.self.inside.me c.self.inside.sides.items c.self.view_is c.from.result side
    there read in
    let held : c.hold.new.self.held
    ≡ window_held (peer_at (link_of h) c.from.result) (window_at h c.from.result)
    c.args.frame.now.number c.args.string =
    c.hold.ensures.held
    ∙ (ap (λ (p : Peer). window_held p side.held c.args.frame.now.number c.args.string)
    (sym peer)
    ∙ ap (λ (w : Window). window_held (peer_at (link_of h) c.from.result) w c.args.frame.now.number
    c.args.string) (sym window)) in
    seen-held h c.self.inside.me c.self.inside.sides.items c.self.view_is c.from.result side
    c.hold.new.self
    (window_held (peer_at (link_of h) c.from.result) (window_at h c.from.result)
    c.args.frame.now.number c.args.string) there read c.hold.ensures.peer held
    ∙ rw from (holds-here h c.args.frame.now c.args.string mine)
