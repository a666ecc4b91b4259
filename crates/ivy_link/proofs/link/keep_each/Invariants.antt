use Rattle.std.proofs.Common.{◌≡◌, map, drop}
use Rattle.ivy_wire.specs.Lent.{owned_parcel}
use Rattle.ivy_link.specs.Sides.{message_of, held_of}
use Rattle.ivy_link.proofs.Sending.{IsKeeping}
use Rattle.ivy_link.proofs.link.keep_each.Given as goal

abbrev pub invariant-loop-parcel : goal.invariant-loop-parcel
invariant-loop-parcel g l = record {
  keeping : IsKeeping l.fn.sides.items (map owned_parcel l.parcels) l.sides.items
      (drop l.parcel-index (map owned_parcel l.parcels));
  held : map held_of l.sides.items ≡ map held_of l.fn.sides.items;
  copies : l.copies.items ≡ map message_of (drop l.parcel-index (map owned_parcel l.parcels));
}
