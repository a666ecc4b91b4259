use Rattle.std.proofs.Common.{rules, ◌<◌, length, ◌+◌, ◌^◌, ap, ◌∙◌, arith}
use Rattle.ivy_link.specs.stated.Linked.{with_message}
use Rattle.ivy_link.specs.Sides.{held_of}
use Rattle.ivy_link.proofs.Peers.{stays_same}
use Rattle.ivy_link.proofs.Sending.{kept-inside, kept-here, kept_more, copy-here}
use Rattle.ivy_link.proofs.link.keep_each.Goals as goal

pub index_mut-requires : goal.index_mut-requires
index_mut-requires g c =
    let at : c.from.result < length c.loop-parcel.sides.items =
    kept-inside c.args.sides.now.items c.args.parcels.now c.loop-parcel.sides.items
    c.loop-parcel.parcel-index c.from.result c.loop-parcel-test.true c.from.ensures
    c.loop-parcel.invariant.keeping in
    search (rules, at)

pub keep-requires-clause-room : goal.keep-requires-clause-room
keep-requires-clause-room g c =
    (kept-here c.args.sides.now.items c.args.parcels.now c.loop-parcel.sides.items
    c.loop-parcel.parcel-index c.from.result c.loop-parcel-test.true c.from.ensures
    c.index_mut.result.now c.loop-parcel.invariant.keeping c.index_mut.ensures.value).0

pub keep-requires-clause-number : goal.keep-requires-clause-number
keep-requires-clause-number g c =
    let small : c.index_mut.result.now.peer.sent + 1 < 2 ^ 64 =
    (kept-here c.args.sides.now.items c.args.parcels.now c.loop-parcel.sides.items
    c.loop-parcel.parcel-index c.from.result c.loop-parcel-test.true c.from.ensures
    c.index_mut.result.now c.loop-parcel.invariant.keeping c.index_mut.ensures.value).1 in
    omega (arith, small)

pub loop-parcel-preserved : goal.loop-parcel-preserved
loop-parcel-preserved g c =
    let facts =
    copy-here c.args.sides.now.items c.args.parcels.now c.loop-parcel.sides.items
    c.loop-parcel.parcel-index c.from.result c.loop-parcel-test.true c.from.ensures
    c.loop-parcel.copies.items c.pop_front.new.self.items c.in-Some.copy
    c.loop-parcel.invariant.copies c.in-Some.ensures.items in
    let at : c.from.result < length c.loop-parcel.sides.items =
    kept-inside c.args.sides.now.items c.args.parcels.now c.loop-parcel.sides.items
    c.loop-parcel.parcel-index c.from.result c.loop-parcel-test.true c.from.ensures
    c.loop-parcel.invariant.keeping in
    record {
      keeping =
          kept_more c.args.sides.now.items c.args.parcels.now c.loop-parcel.sides.items
          c.loop-parcel.parcel-index c.from.result c.loop-parcel-test.true c.from.ensures
          c.index_mut.result.now c.keep.new.self c.loop-parcel.invariant.keeping
          c.index_mut.ensures.value
          (c.keep.ensures.peer ∙ ap (with_message c.index_mut.result.now.peer) facts.0)
          c.keep.ensures.room;
      held = stays_same held_of c.args.sides.now.items c.loop-parcel.sides.items c.from.result
          c.index_mut.result.now c.keep.new.self c.loop-parcel.invariant.held at
          c.index_mut.ensures.value c.keep.ensures.held;
      copies = facts.1;
    }
