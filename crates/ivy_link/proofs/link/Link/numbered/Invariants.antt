use Rattle.std.proofs.Common.{◌≡◌, map, take}
use Rattle.ivy_wire.specs.Lent.{owned_parcel, owned_frame}
use Rattle.ivy_link.specs.Holding.{frames_for}
use Rattle.ivy_link.specs.Sides.{IsCountOf}
use Rattle.ivy_link.proofs.link.Link.numbered.Given as goal

abbrev pub invariant-loop-index : goal.invariant-loop-index
invariant-loop-index g l = record {
  frames : map owned_frame l.frames.items
      ≡ take l.index (frames_for l.self (map owned_parcel l.parcels));
  counts : IsCountOf l.counts (map owned_parcel (take l.index l.parcels));
}
