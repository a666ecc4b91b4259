use Rattle.std.proofs.Common.{rules, ◌≡◌, ◌<◌, ◌+◌, ◌^◌, length, sym, ap, ◌∙◌, arith}
use Rattle.ivy_link.specs.stated.Linked.{Linked, Peer, peer_at}
use Rattle.ivy_link.specs.Holding.{link_of}
use Rattle.ivy_link.proofs.Peers.{view-length, view-read}
use Rattle.ivy_link.proofs.Sending.{here-within, here-number, here-frame}
use Rattle.ivy_link.proofs.Passed.{passed-earlier}
use Rattle.ivy_link.proofs.link.Link.frame.Goals as goal

pub index-side-requires : goal.index-side-requires
index-side-requires g c =
    let at : c.from.result < length c.args.self.now.peers =
    here-within (link_of c.args.self.now) c.args.parcels.now c.args.index c.from.result
    c.requires.within c.requires.inside c.from.ensures in
    search (
      rules,
      at,
      view-length (link_of c.args.self.now) c.self.inside.me c.self.inside.sides.items
          (ap link_of c.self.view_is),
    )

pub overflow_add-result-2 : goal.overflow_add-result-2
overflow_add-result-2 g c =
    let at : c.from.result < length c.args.self.now.peers =
    here-within (link_of c.args.self.now) c.args.parcels.now c.args.index c.from.result
    c.requires.within c.requires.inside c.from.ensures in
    let peer : c.index-side.result.now.peer ≡ peer_at (link_of c.args.self.now) c.from.result =
    sym (view-read (link_of c.args.self.now) c.self.inside.me c.self.inside.sides.items
    (ap link_of c.self.view_is) c.from.result c.index-side.result.now at
    c.index-side.ensures) in
    let earlier =
    passed-earlier c.args.parcels.now c.args.index c.pass-earlier.result c.requires.inside
    c.pass-earlier.ensures.earlier in
    let number : c.sent.result + c.pass-earlier.result + 1 < 2 ^ 64 =
    here-number (link_of c.args.self.now) c.args.parcels.now c.args.index c.from.result
    c.requires.within c.requires.inside c.from.ensures c.sent.result c.pass-earlier.result
    c.requires.numbers (c.sent.ensures ∙ ap (λ (p : Peer). p.sent) peer)
    earlier in
    search (rules, number)

pub overflow_add-result : goal.overflow_add-result
overflow_add-result g c = omega (arith, overflow_add-result-2 g c)

pub returns-clause-frame : goal.returns-clause-frame
returns-clause-frame g c =
    let at : c.from.result < length c.args.self.now.peers =
    here-within (link_of c.args.self.now) c.args.parcels.now c.args.index c.from.result
    c.requires.within c.requires.inside c.from.ensures in
    let peer : c.index-side.result.now.peer ≡ peer_at (link_of c.args.self.now) c.from.result =
    sym (view-read (link_of c.args.self.now) c.self.inside.me c.self.inside.sides.items
    (ap link_of c.self.view_is) c.from.result c.index-side.result.now at
    c.index-side.ensures) in
    let earlier =
    passed-earlier c.args.parcels.now c.args.index c.pass-earlier.result c.requires.inside
    c.pass-earlier.ensures.earlier in
    here-frame (link_of c.args.self.now) c.args.parcels.now c.args.index c.from.result
    c.requires.within c.requires.inside c.from.ensures c.self.inside.me c.sent.result
    c.pass-earlier.result c.delivered.result
    (ap (λ (l : Linked). l.me) (ap link_of c.self.view_is))
    (c.sent.ensures ∙ ap (λ (p : Peer). p.sent) peer) earlier
    (c.delivered.ensures ∙ ap (λ (p : Peer). p.delivered) peer)
