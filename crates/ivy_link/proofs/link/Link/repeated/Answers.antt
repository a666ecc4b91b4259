use Rattle.std.proofs.Common.{rules, ◌≡◌, ◌<◌, ◌≤◌, ◌+◌, ◌-◌, List, length, map, min, get_or, sym, ap, ◌∙◌, arith, subst}
use Rattle.ivy_wire.specs.stated.Data.{Message}
use Rattle.ivy_wire.specs.Lent.{owned_message, owned_frame}
use Rattle.ivy_link.specs.stated.Linked.{Linked, Peer, peer_at}
use Rattle.ivy_link.specs.Holding.{link_of}
use Rattle.ivy_link.proofs.Peers.{view-read}
use Rattle.ivy_link.proofs.Pulses.{repeated-more, repeated-all}
use Rattle.ivy_link.proofs.link.Link.repeated.Goals as goal

pub loop-i-preserved : goal.loop-i-preserved
loop-i-preserved g c =
    let l : Linked = link_of c.args.self.now in
    let p : Peer = peer_at (link_of c.args.self.now) c.args.to in
    let side : p ≡ c.index-side.result.now.peer =
    view-read l c.self.inside.me c.self.inside.sides.items (ap link_of c.self.view_is) c.args.to
    c.index-side.result.now c.requires.to (rw c.from.ensures at c.index-side.ensures) in
    let kept : c.kept-kept.result.now.items ≡ p.kept =
    c.kept-kept.ensures.items ∙ ap (λ (q : Peer). q.kept) (sym side) in
    let len : c.len-2.result ≡ length c.kept-kept.result.now.items =
    search (rules, c.len-2.ensures) in
    let len_1 : c.len.result ≡ length c.kept-kept.result.now.items =
    search (rules, c.len.ensures) in
    let count : c.min-count.result ≤ c.len.result = search (rules, c.min-count.ensures) in
    let inside : c.loop-i.i < length p.kept =
    omega (arith, c.loop-i-test.true, count, len_1, ap length kept) in
    let number : c.sent.result - c.len-2.result + 1 + c.loop-i.i
    ≡ p.sent - length p.kept + 1 + c.loop-i.i =
    omega (arith, len, ap length kept, c.sent.ensures, ap (λ (q : Peer). q.sent) side) in
    let ack : c.delivered.result ≡ p.delivered =
    c.delivered.ensures ∙ ap (λ (q : Peer). q.delivered) (sym side) in
    let read : c.index.result.now ≡ get_or p.kept c.loop-i.i c.index.result.now =
    subst (λ (ms : List Message). c.index.result.now ≡ get_or ms c.loop-i.i c.index.result.now)
    kept c.index.ensures in
    let lent : owned_message c.lent.result
    ≡ get_or p.kept c.loop-i.i (owned_message c.lent.result) =
    subst (λ (m : Message). m ≡ get_or p.kept c.loop-i.i m) (sym c.lent.ensures) read in
    c.in_ok-add.ensures
    ∙ repeated-more l.me c.args.to p c.loop-i.i (map owned_frame c.loop-i.frames.items)
    c.self.inside.me (c.sent.result - c.len-2.result + 1 + c.loop-i.i) c.delivered.result
    (owned_message c.lent.result) inside (ap (λ (k : Linked). k.me) (ap link_of c.self.view_is))
    number ack lent c.loop-i.invariant

pub returns : goal.returns
returns g c =
    let l : Linked = link_of c.args.self.now in
    let p : Peer = peer_at (link_of c.args.self.now) c.args.to in
    let side : p ≡ c.index-side.result.now.peer =
    view-read l c.self.inside.me c.self.inside.sides.items (ap link_of c.self.view_is) c.args.to
    c.index-side.result.now c.requires.to (rw c.from.ensures at c.index-side.ensures) in
    let kept : c.kept-kept.result.now.items ≡ p.kept =
    c.kept-kept.ensures.items ∙ ap (λ (q : Peer). q.kept) (sym side) in
    let len : c.len.result ≡ length c.kept-kept.result.now.items = search (rules, c.len.ensures) in
    let count : c.min-count.result ≡ min c.len.result 32 = search (rules, c.min-count.ensures) in
    repeated-all l.me c.args.to p c.loop-i.i (map owned_frame c.loop-i.frames.items)
    (omega (arith, count, len, ap length kept, c.loop-i-test.false, c.loop-i.auto.i-end))
    c.loop-i.invariant
