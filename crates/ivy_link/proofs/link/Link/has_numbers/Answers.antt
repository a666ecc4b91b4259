use Rattle.std.proofs.Common.{rules, refl, ℕ, ◌≡◌, ◌<◌, ◌≤◌, ◌+◌, ◌^◌, length, map, sym, ap, ◌∙◌, arith, inl, inr, true, false}
use Rattle.std.proofs.lemmas.Bool.{cases_eq, cases_lt}
use Rattle.std.proofs.lemmas.List.{get_or-map, length-map}
use Rattle.ivy_wire.specs.Lent.{owned_parcel}
use Rattle.ivy_link.specs.stated.Linked.{Peer, peer_at}
use Rattle.ivy_link.specs.Sides.{count_to}
use Rattle.ivy_link.specs.Holding.{link_of}
use Rattle.ivy_link.proofs.Peers.{view-length, view-read}
use Rattle.ivy_link.proofs.Counting.{numbers-all}
use Rattle.ivy_link.proofs.Sending.{here-within, here-spent, nobody, parcel_at}
use Rattle.ivy_link.proofs.link.Link.has_numbers.Goals as goal

pub index-side-requires : goal.index-side-requires
index-side-requires g c =
    let at : c.from.result < length c.args.self.now.peers =
    here-within (link_of c.args.self.now) c.args.parcels.now c.loop-parcel.parcel-index
    c.from.result c.requires.within c.loop-parcel-test.true c.from.ensures in
    search (
      rules,
      at,
      view-length (link_of c.args.self.now) c.self.inside.me c.self.inside.sides.items
          (ap link_of c.self.view_is),
    )

pub returns-then-not-has_numbers_to : goal.returns-then-not-has_numbers_to
returns-then-not-has_numbers_to g c =
    let at : c.from.result < length c.args.self.now.peers =
    here-within (link_of c.args.self.now) c.args.parcels.now c.loop-parcel.parcel-index
    c.from.result c.requires.within c.loop-parcel-test.true c.from.ensures in
    let peer : c.index-side.result.now.peer ≡ peer_at (link_of c.args.self.now) c.from.result =
    sym (view-read (link_of c.args.self.now) c.self.inside.me c.self.inside.sides.items
    (ap link_of c.self.view_is) c.from.result c.index-side.result.now at
    c.index-side.ensures) in
    let count : ℕ =
    count_to (map owned_parcel c.args.parcels.now)
    (parcel_at c.args.parcels.now c.loop-parcel.parcel-index).dest in
    let spent : 2 ^ 64 ≤ c.index-side.result.now.peer.sent + count =
    elim (cases_lt (c.index-side.result.now.peer.sent + count) (2 ^ 64)) [
      | inl lt ↦
          (let wrong : false ≡ true =
          (rw c.if-not-has_numbers_to.true at c.has_numbers_to.ensures).1 (omega (arith, lt)) in cc)
      | inr
          le ↦ le
    ] in
    sym (here-spent (link_of c.args.self.now) c.args.parcels.now c.loop-parcel.parcel-index
    c.from.result c.requires.within c.loop-parcel-test.true c.from.ensures
    c.index-side.result.now.peer.sent count (ap (λ (p : Peer). p.sent) peer) refl spent)

pub loop-parcel-preserved : goal.loop-parcel-preserved
loop-parcel-preserved g c =
    let at : c.from.result < length c.args.self.now.peers =
    here-within (link_of c.args.self.now) c.args.parcels.now c.loop-parcel.parcel-index
    c.from.result c.requires.within c.loop-parcel-test.true c.from.ensures in
    let dest : c.from.result ≡ (parcel_at c.args.parcels.now c.loop-parcel.parcel-index).dest =
    c.from.ensures in
    let peer : peer_at (link_of c.args.self.now)
    (parcel_at c.args.parcels.now c.loop-parcel.parcel-index).dest
    ≡ c.index-side.result.now.peer =
    ap (peer_at (link_of c.args.self.now)) (sym dest)
    ∙ view-read (link_of c.args.self.now) c.self.inside.me c.self.inside.sides.items
    (ap link_of c.self.view_is) c.from.result c.index-side.result.now at c.index-side.ensures in
    let count : ℕ =
    count_to (map owned_parcel c.args.parcels.now)
    (parcel_at c.args.parcels.now c.loop-parcel.parcel-index).dest in
    let enough : c.index-side.result.now.peer.sent + count < 2 ^ 64 =
    search (rules, c.if-not-has_numbers_to.ensures) in
    λ k lt.
    elim (cases_eq k c.loop-parcel.parcel-index) [
      | inl e ↦ rw e (omega (arith, enough, ap (λ (p : Peer). p.sent) peer))
      | inr ne ↦ c.loop-parcel.invariant k (omega (arith, lt, ne))
    ]

pub returns : goal.returns
returns g c =
    sym (numbers-all (link_of c.args.self.now) (map owned_parcel c.args.parcels.now)
    c.requires.within (λ k d lt.
    let inside : k < length c.args.parcels.now =
    omega (arith, lt, length-map c.args.parcels.now owned_parcel) in
    rw (get_or-map owned_parcel c.args.parcels.now k nobody d inside)
    (c.loop-parcel.invariant k (omega (arith, inside, c.loop-parcel-test.false)))))
