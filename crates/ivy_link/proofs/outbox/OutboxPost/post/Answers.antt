use Rattle.std.proofs.Common.{map}
use Rattle.ivy_wire.specs.Lent.{owned_parcel}
use Rattle.ivy_link.proofs.Boxes.{sent-within}
use Rattle.ivy_link.proofs.outbox.OutboxPost.post.Goals as goal

pub has_numbers-requires : goal.has_numbers-requires
has_numbers-requires g c =
    record {
      within =
          sent-within _ _ c.self.view_is c.self.invariant (map owned_parcel c.args.parcels.now)
          c.requires.fits;
    }
