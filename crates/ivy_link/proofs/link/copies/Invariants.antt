use Rattle.std.proofs.Common.{◌≡◌, map, take}
use Rattle.ivy_wire.specs.Lent.{owned_parcel}
use Rattle.ivy_link.specs.Sides.{message_of}
use Rattle.ivy_link.proofs.link.copies.Given as goal

abbrev pub invariant-loop-parcel : goal.invariant-loop-parcel
invariant-loop-parcel g l =
    l.copies.items ≡ map message_of (map owned_parcel (take l.parcel-index l.parcels))
