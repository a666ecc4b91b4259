use Rattle.std.proofs.Common.{◌≡◌, ◌≤◌, ◌<◌, ℕ, length, map, take}
use Rattle.ivy_wire.specs.Lent.{owned_parcel}
use Rattle.ivy_link.specs.Sides.{peer_of, held_of, side_at, count_to}
use Rattle.ivy_link.proofs.link.reserve.Given as goal

abbrev pub invariant-loop-parcel : goal.invariant-loop-parcel
invariant-loop-parcel g l = record {
  peers : map peer_of l.sides.items ≡ map peer_of l.fn.sides.items;
  held : map held_of l.sides.items ≡ map held_of l.fn.sides.items;
  room : (j : ℕ) → j < length l.sides.items
      → 1 ≤ count_to (take l.parcel-index (map owned_parcel l.parcels)) j
      → count_to (map owned_parcel l.parcels) j ≤ (side_at l.sides.items j).room;
}
