use Rattle.std.proofs.Common.{rules, ◌<◌, length, ◌+◌, ◌^◌, refl, ap, ◌∙◌, arith}
use Rattle.ivy_wire.specs.Lent.{owned_parcel}
use Rattle.ivy_link.specs.stated.Linked.{with_message}
use Rattle.ivy_link.specs.Sides.{held_of}
use Rattle.ivy_link.proofs.Peers.{stays_same}
use Rattle.ivy_link.proofs.Sending.{alone-inside, alone-here, alone-kept}
use Rattle.ivy_link.proofs.link.keep_one.Goals as goal

pub index_mut-requires : goal.index_mut-requires
index_mut-requires g c =
    let at : c.from.result < length c.args.sides.now.items =
    alone-inside c.args.sides.now.items (owned_parcel c.args.parcel.now) c.from.result c.from.ensures
    c.requires.within c.requires.room c.requires.numbers in
    search (rules, at)

pub keep-requires-clause-room : goal.keep-requires-clause-room
keep-requires-clause-room g c =
    (alone-here c.args.sides.now.items (owned_parcel c.args.parcel.now) c.from.result c.from.ensures
    c.requires.within c.requires.room c.requires.numbers
    c.index_mut.result.now c.index_mut.ensures.value).0

pub keep-requires-clause-number : goal.keep-requires-clause-number
keep-requires-clause-number g c =
    let small : c.index_mut.result.now.peer.sent + 1 < 2 ^ 64 =
    (alone-here c.args.sides.now.items (owned_parcel c.args.parcel.now) c.from.result c.from.ensures
    c.requires.within c.requires.room c.requires.numbers
    c.index_mut.result.now c.index_mut.ensures.value).1 in
    omega (arith, small)

pub returns-clause-after : goal.returns-clause-after
returns-clause-after g c =
    alone-kept c.args.sides.now.items (owned_parcel c.args.parcel.now) c.from.result c.from.ensures
    c.requires.within c.requires.room c.requires.numbers
    c.index_mut.result.now c.keep.new.self c.index_mut.ensures.value
    (c.keep.ensures.peer ∙ ap (with_message c.index_mut.result.now.peer) c.requires.kept)
    c.keep.ensures.room

pub returns-clause-held : goal.returns-clause-held
returns-clause-held g c =
    stays_same held_of c.args.sides.now.items c.args.sides.now.items c.from.result
    c.index_mut.result.now c.keep.new.self refl
    (alone-inside c.args.sides.now.items (owned_parcel c.args.parcel.now) c.from.result c.from.ensures
    c.requires.within c.requires.room c.requires.numbers)
    c.index_mut.ensures.value c.keep.ensures.held
