use Rattle.std.proofs.Common.{◌≡◌, ℕ, ◌+◌, ◌++◌, List, [], ◌∷◌, map, take, ap, ◌∙◌, arith, Some}
use Rattle.std.proofs.lemmas.List.{length-map, take_more, take_all}
use Rattle.std.proofs.lemmas.Option.{slice_get_within, get_or_from_slice_get}
use Rattle.std.specs.List.{slice_get}
use Rattle.ivy_wire.specs.stated.Data.{Frame}
use Rattle.ivy_wire.specs.Lent.{owned_parcel, owned_frame}
use Rattle.ivy_link.specs.Holding.{link_of, frames_for}
use Rattle.ivy_link.proofs.Sending.{length-frames_of}
use Rattle.ivy_link.proofs.link.Link.numbered.Goals as goal

-- the frames up to one of them, and that one
take-read : (fs : List Frame) (i : ℕ) (f : Frame) → slice_get fs i ≡ Some f
    → take (i + 1) fs ≡ take i fs ++ f ∷ []
take-read fs i f read =
    take_more fs i f (slice_get_within fs i f read)
    ∙ ap (λ x. take i fs ++ x ∷ []) (get_or_from_slice_get fs i f f read)

pub loop-index-preserved : goal.loop-index-preserved
loop-index-preserved g c =
    let added = c.in_ok-add.ensures in
    let more =
    take-read (frames_for c.args.self.now (map owned_parcel c.args.parcels.now))
    c.loop-index.index (owned_frame c.frame.result) c.frame.ensures.frame in
    record { frames = cc; counts = c.frame.ensures.after }

pub returns-clause-ok : goal.returns-clause-ok
returns-clause-ok g c =
    c.loop-index.invariant.frames
    ∙ take_all c.loop-index.index
    (frames_for c.args.self.now (map owned_parcel c.args.parcels.now))
    (omega (
      arith,
      c.loop-index-test.false,
      length-frames_of (link_of c.args.self.now) (map owned_parcel c.args.parcels.now),
      length-map c.args.parcels.now owned_parcel,
    ))
