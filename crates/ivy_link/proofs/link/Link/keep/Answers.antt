use Rattle.std.proofs.Common.{◌≡◌, ℕ, List, length, map, sym, ap, ◌∙◌}
use Rattle.ivy_wire.specs.Lent.{owned_parcel}
use Rattle.ivy_link.specs.stated.Linked.{Linked, after_sends}
use Rattle.ivy_link.specs.Holding.{Holding, link_of}
use Rattle.ivy_link.specs.Sides.{Sided, linked, seen}
use Rattle.ivy_link.proofs.Peers.{holding-is}
use Rattle.ivy_link.proofs.Sending.{send-numbers, send-done, sends-nodes}
use Rattle.ivy_link.proofs.link.Link.keep.Goals as goal

-- the sides as they are seen from the link's own number
same-view : (l : Linked) (me : ℕ) (sides : List Sided) → linked me sides ≡ l → linked l.me sides ≡ l
same-view l me sides view = ap (λ m. linked m sides) (sym (ap (λ (k : Linked). k.me) view)) ∙ view

pub keep_each-requires-clause-numbers : goal.keep_each-requires-clause-numbers
keep_each-requires-clause-numbers g c =
    send-numbers (link_of c.args.self.now) c.self.inside.sides.items c.reserve.new.sides.items
    (map owned_parcel c.args.parcels.now)
    (same-view (link_of c.args.self.now) c.self.inside.me c.self.inside.sides.items
    (ap link_of c.self.view_is)) c.requires.within c.reserve.ensures.peers
    (sym c.has_numbers.ensures ∙ c.if-not-has_numbers.false)

pub returns-clause-ok : goal.returns-clause-ok
returns-clause-ok g c =
    let sent : linked c.self.inside.me c.keep_each.new.sides.items
    ≡ after_sends (link_of c.args.self.now) (map owned_parcel c.args.parcels.now) =
    ap (λ m. linked m c.keep_each.new.sides.items) (ap (λ (k : Holding). k.me) c.self.view_is)
    ∙ send-done (link_of c.args.self.now) c.self.inside.sides.items c.reserve.new.sides.items
    (map owned_parcel c.args.parcels.now)
    (same-view (link_of c.args.self.now) c.self.inside.me c.self.inside.sides.items
    (ap link_of c.self.view_is)) c.requires.within c.reserve.ensures.peers
    c.keep_each.new.sides.items c.keep_each.ensures.after in
    holding-is (seen c.self.inside.me c.keep_each.new.sides.items)
    (after_sends (link_of c.args.self.now) (map owned_parcel c.args.parcels.now))
    c.args.self.now.held sent
    (c.keep_each.ensures.held
    ∙ (c.reserve.ensures.held ∙ ap (λ (h : Holding). h.held) c.self.view_is))

pub returns-clause-nodes : goal.returns-clause-nodes
returns-clause-nodes g c =
    ap (λ (h : Holding). length h.peers) (returns-clause-ok g c)
    ∙ sends-nodes (link_of c.args.self.now) (map owned_parcel c.args.parcels.now)
