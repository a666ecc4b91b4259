use Rattle.std.proofs.Common.{◌≡◌, map, take}
use Rattle.ivy_wire.specs.Lent.{owned_parcel}
use Rattle.test_layers.proofs.posted.PostedPost.post.Given as goal

abbrev pub invariant-loop-parcel : goal.invariant-loop-parcel
invariant-loop-parcel g l = l.taken.items ≡ map owned_parcel (take l.parcel-index l.parcels)
