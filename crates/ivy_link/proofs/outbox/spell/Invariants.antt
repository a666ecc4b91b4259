use Rattle.std.proofs.Common.{◌≡◌, ◌++◌, map, take}
use Rattle.ivy_wire.specs.Lent.{owned_parcel}
use Rattle.ivy_wire.specs.stated.Spelling.{spelling}
use Rattle.ivy_link.specs.stated.Linked.{frames_of}
use Rattle.ivy_link.specs.Holding.{link_of}
use Rattle.ivy_link.specs.Sides.{IsCountOf}
use Rattle.ivy_link.proofs.outbox.spell.Given as goal

-- the first frames so far are spelled
abbrev pub invariant-loop-index : goal.invariant-loop-index
invariant-loop-index g l = record {
  strings : l.strings.items
      ≡ l.fn.strings.items ++ map spelling
      (take l.index (frames_of (link_of l.link) (map owned_parcel l.parcels)));
  counts : IsCountOf l.counts (map owned_parcel (take l.index l.parcels));
}
