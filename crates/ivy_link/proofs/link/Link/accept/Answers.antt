use Rattle.std.proofs.Common.{◌≡◌, ◌≢◌, ◌<◌, length, sym, ap, ◌∙◌, arith}
use Rattle.std.proofs.Math.ListN.{set}
use Rattle.ivy_link.specs.stated.Linked.{Linked}
use Rattle.ivy_link.specs.stated.Accepted.{verdict_on, heard}
use Rattle.ivy_link.specs.Holding.{Holding, link_of, holding, window_at, offered_at}
use Rattle.ivy_link.specs.Windows.{moved_by}
use Rattle.ivy_link.proofs.Peers.{view-read, seen-write, seen-window, accepted-mine, accepted-here, accepted-away}
use Rattle.ivy_link.proofs.link.Link.accept.Goals as goal

pub returns-then-frame-self-clause-after : goal.returns-then-frame-self-clause-after
returns-then-frame-self-clause-after g c =
    let mine : c.args.frame.now.dest ≡ c.args.self.now.me =
    c.if-frame-self.true ∙ ap (λ (h : Holding). h.me) c.self.view_is in
    let lt : c.args.frame.now.source < length c.args.self.now.peers = c.requires.source mine in
    let from : c.from.result ≡ c.args.frame.now.source = c.from.ensures in
    let there : c.from.result < length c.args.self.now.peers = omega (arith, lt, from) in
    let side = c.index_mut.result.now in
    let read = c.index_mut.ensures.value in
    let peer =
    rw from at
    (view-read (link_of c.args.self.now) c.self.inside.me c.self.inside.sides.items
    (ap link_of c.self.view_is) c.from.result side there read) in
    let window =
    rw from at
    (seen-window c.args.self.now c.self.inside.me c.self.inside.sides.items c.self.view_is
    c.from.result side there read) in
    let held =
    accepted-here c.args.self.now c.args.frame.now side c.hear.new.self.held mine peer window
    c.hear.ensures.held in
    let changed =
    seen-write c.args.self.now c.self.inside.me c.self.inside.sides.items c.self.view_is
    c.from.result side c.hear.new.self
    (λ p. heard (verdict_on p.delivered c.args.frame.now.number) p c.args.frame.now.number
    c.args.frame.now.ack)
    (moved_by (offered_at c.args.self.now c.args.frame.now)
    (window_at c.args.self.now c.args.frame.now.source)) there read c.hear.ensures.peer held in
    changed ∙ rw from
    (ap (λ (l : Linked). holding l
    (set c.args.self.now.held c.args.frame.now.source
    (moved_by (offered_at c.args.self.now c.args.frame.now)
    (window_at c.args.self.now c.args.frame.now.source))))
    (sym (accepted-mine (link_of c.args.self.now) c.args.frame.now mine)))

pub returns-else-frame-self-clause-after : goal.returns-else-frame-self-clause-after
returns-else-frame-self-clause-after g c =
    let apart : c.args.frame.now.dest ≢ c.args.self.now.me =
    λ e. c.if-frame-self.false (e ∙ sym (ap (λ (h : Holding). h.me) c.self.view_is)) in
    accepted-away c.args.self.now c.args.frame.now apart
