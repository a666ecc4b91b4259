use Rattle.std.proofs.Common.{◌≡◌, ◌<◌, ◌≤◌, length, map, take, ap, arith}
use Rattle.std.proofs.lemmas.List.{length-map, take_all}
use Rattle.ivy_wire.specs.Lent.{owned_parcel}
use Rattle.ivy_link.specs.Sides.{peer_of, held_of, side_at, count_to}
use Rattle.ivy_link.proofs.Peers.{stays_same}
use Rattle.ivy_link.proofs.Counting.{counted_few, room-more, room-none}
use Rattle.ivy_link.proofs.Sending.{ready-within, parcel_at, parcel-here, parcel-inside}
use Rattle.ivy_link.proofs.link.reserve.Goals as goal

pub index_mut-requires : goal.index_mut-requires
index_mut-requires g c =
    let at : c.from.result < length c.loop-parcel.sides.items =
    ready-within c.args.sides.now.items c.loop-parcel.sides.items c.args.parcels.now
    c.loop-parcel.parcel-index c.from.result c.loop-parcel.invariant.peers c.requires.within
    c.loop-parcel-test.true c.from.ensures in
    omega (arith, at)

pub returns-in_err-reserve-clause-peers : goal.returns-in_err-reserve-clause-peers
returns-in_err-reserve-clause-peers g c =
    let at : c.from.result < length c.loop-parcel.sides.items =
    ready-within c.args.sides.now.items c.loop-parcel.sides.items c.args.parcels.now
    c.loop-parcel.parcel-index c.from.result c.loop-parcel.invariant.peers c.requires.within
    c.loop-parcel-test.true c.from.ensures in
    stays_same peer_of c.args.sides.now.items c.loop-parcel.sides.items c.from.result
    c.index_mut.result.now c.reserve.new.self c.loop-parcel.invariant.peers at
    c.index_mut.ensures.value c.reserve.ensures.peer

pub returns-in_err-reserve-clause-held : goal.returns-in_err-reserve-clause-held
returns-in_err-reserve-clause-held g c =
    let at : c.from.result < length c.loop-parcel.sides.items =
    ready-within c.args.sides.now.items c.loop-parcel.sides.items c.args.parcels.now
    c.loop-parcel.parcel-index c.from.result c.loop-parcel.invariant.peers c.requires.within
    c.loop-parcel-test.true c.from.ensures in
    stays_same held_of c.args.sides.now.items c.loop-parcel.sides.items c.from.result
    c.index_mut.result.now c.reserve.new.self c.loop-parcel.invariant.held at
    c.index_mut.ensures.value c.reserve.ensures.held

pub loop-parcel-preserved : goal.loop-parcel-preserved
loop-parcel-preserved g c =
    let at : c.from.result < length c.loop-parcel.sides.items =
    ready-within c.args.sides.now.items c.loop-parcel.sides.items c.args.parcels.now
    c.loop-parcel.parcel-index c.from.result c.loop-parcel.invariant.peers c.requires.within
    c.loop-parcel-test.true c.from.ensures in
    let more : count_to (map owned_parcel c.args.parcels.now)
    (parcel_at c.args.parcels.now c.loop-parcel.parcel-index).dest ≤ length c.args.parcels.now =
    omega (
      arith,
      counted_few (map owned_parcel c.args.parcels.now)
          (parcel_at c.args.parcels.now c.loop-parcel.parcel-index).dest,
      length-map c.args.parcels.now owned_parcel,
    ) in
    let room : length c.args.parcels.now ≤ c.reserve.new.self.room = c.in_ok-reserve.ensures.room in
    record {
      peers = stays_same peer_of c.args.sides.now.items c.loop-parcel.sides.items c.from.result
          c.index_mut.result.now c.reserve.new.self c.loop-parcel.invariant.peers at
          c.index_mut.ensures.value c.reserve.ensures.peer;
      held = stays_same held_of c.args.sides.now.items c.loop-parcel.sides.items c.from.result
          c.index_mut.result.now c.reserve.new.self c.loop-parcel.invariant.held at
          c.index_mut.ensures.value c.reserve.ensures.held;
      room = room-more c.loop-parcel.sides.items (map owned_parcel c.args.parcels.now)
          c.loop-parcel.parcel-index c.from.result
          (parcel_at c.args.parcels.now c.loop-parcel.parcel-index) c.reserve.new.self
          (parcel-inside c.args.parcels.now c.loop-parcel.parcel-index c.loop-parcel-test.true)
          (parcel-here c.args.parcels.now c.loop-parcel.parcel-index c.loop-parcel-test.true)
          c.from.ensures at (omega (arith, more, room)) c.loop-parcel.invariant.room;
    }

pub returns-clause-room : goal.returns-clause-room
returns-clause-room g c =
    let all : take c.loop-parcel.parcel-index (map owned_parcel c.args.parcels.now)
    ≡ map owned_parcel c.args.parcels.now =
    take_all c.loop-parcel.parcel-index (map owned_parcel c.args.parcels.now)
    (omega (arith, c.loop-parcel-test.false, length-map c.args.parcels.now owned_parcel)) in
    λ j lt. room-none (map owned_parcel c.args.parcels.now) j
    (side_at c.loop-parcel.sides.items j).room
    (λ some. c.loop-parcel.invariant.room j lt
    (omega (arith, some, ap (λ ps. count_to ps j) all)))
