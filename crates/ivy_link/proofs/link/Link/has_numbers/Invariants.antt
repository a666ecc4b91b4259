use Rattle.std.proofs.Common.{◌<◌, ◌+◌, ◌^◌, ℕ, map}
use Rattle.ivy_wire.specs.Lent.{owned_parcel}
use Rattle.ivy_link.specs.stated.Linked.{peer_at}
use Rattle.ivy_link.specs.Holding.{link_of}
use Rattle.ivy_link.specs.Sides.{count_to}
use Rattle.ivy_link.proofs.Sending.{parcel_at}
use Rattle.ivy_link.proofs.link.Link.has_numbers.Given as goal

abbrev pub invariant-loop-parcel : goal.invariant-loop-parcel
invariant-loop-parcel g l =
    (k : ℕ) → k < l.parcel-index
    → (peer_at (link_of l.self) (parcel_at l.parcels k).dest).sent + count_to
    (map owned_parcel l.parcels) (parcel_at l.parcels k).dest < 2 ^ 64
