use Rattle.std.proofs.Common.{◌≡◌, map, arith}
use Rattle.std.proofs.lemmas.Grind.{common_steps}
use Rattle.ivy_wire.specs.Lent.{owned_parcel}
use Rattle.ivy_coherence.specs.stated.Serving.{invalidations}
use Rattle.ivy_coherence.proofs.serving.invalidate.Goals as goal

pub post-requires : goal.post-requires
post-requires g c =
    let all_told : map owned_parcel c.as_slice.result.now
    ≡ invalidations c.args.me c.args.page c.args.call c.args.nodes.now =
    grind (arith, common_steps) in
    record { fits = rw all_told c.requires.fits }
