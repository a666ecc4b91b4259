use Rattle.std.proofs.Common.{◌≡◌, length, map, take}
use Rattle.ivy_wire.specs.declared.Content.TheVariants as content
use Rattle.ivy_wire.specs.Lent.{owned_parcel}
use Rattle.ivy_wire.specs.stated.Posts.{parcel_to}
use Rattle.ivy_coherence.proofs.serving.invalidate.Given as goal

-- the nodes so far are told
abbrev pub invariant-loop-node : goal.invariant-loop-node
invariant-loop-node g l = record {
  count : length l.parcels.items ≡ l.node-index;
  told : map owned_parcel l.parcels.items
      ≡ map (λ node. parcel_to l.me node l.me l.call (content.Inval l.page))
      (take l.node-index l.node-items);
}
