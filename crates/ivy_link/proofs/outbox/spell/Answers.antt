use Rattle.std.proofs.Common.{map, ◌++◌, arith, ap, ◌∙◌}
use Rattle.std.proofs.lemmas.List.{length-map, take_all}
use Rattle.ivy_wire.specs.Lent.{owned_parcel, owned_frame}
use Rattle.ivy_wire.specs.stated.Spelling.{spelling}
use Rattle.ivy_link.specs.stated.Linked.{frames_of}
use Rattle.ivy_link.proofs.Sending.{length-frames_of}
use Rattle.ivy_link.specs.Holding.{link_of}
use Rattle.ivy_link.proofs.Boxes.{fits_read, spelled_one, front-stays}
use Rattle.ivy_link.proofs.outbox.spell.Goals as goal

pub string_of-requires-clause-fits : goal.string_of-requires-clause-fits
string_of-requires-clause-fits g c =
    fits_read c.args.config.now
    (frames_of (link_of c.args.link.now) (map owned_parcel c.args.parcels.now)) c.loop-index.index
    (owned_frame c.frame-frame.result) c.frame-frame.ensures.frame c.requires.fit

pub loop-index-preserved : goal.loop-index-preserved
loop-index-preserved g c =
    record {
      strings = c.in_ok-push_back.ensures.items
          ∙ spelled_one
          (frames_of (link_of c.args.link.now) (map owned_parcel c.args.parcels.now))
          c.loop-index.index (owned_frame c.frame-frame.result) c.args.strings.now.items
          c.loop-index.strings.items c.in_ok-string_of.field-0 c.frame-frame.ensures.frame
          c.loop-index.invariant.strings
          c.in_ok-string_of.ensures.spelled.text;
      counts = c.frame-frame.ensures.after;
    }

pub returns-clause-ok : goal.returns-clause-ok
returns-clause-ok g c =
    c.loop-index.invariant.strings
    ∙ ap (λ fs. c.args.strings.now.items ++ map spelling fs)
    (take_all c.loop-index.index
    (frames_of (link_of c.args.link.now) (map owned_parcel c.args.parcels.now))
    (omega (
      arith,
      c.loop-index-test.false,
      length-frames_of (link_of c.args.link.now) (map owned_parcel c.args.parcels.now),
      length-map c.args.parcels.now owned_parcel,
    )))

pub returns-clause-front : goal.returns-clause-front
returns-clause-front g c =
    front-stays c.args.strings.now.items _ c.loop-index.strings.items c.loop-index.invariant.strings

pub returns-in_err-string_of-clause-front : goal.returns-in_err-string_of-clause-front
returns-in_err-string_of-clause-front g c =
    front-stays c.args.strings.now.items _ c.loop-index.strings.items c.loop-index.invariant.strings

pub returns-in_err-push_back-clause-front : goal.returns-in_err-push_back-clause-front
returns-in_err-push_back-clause-front g c =
    front-stays c.args.strings.now.items _ c.push_back.new.self.items
    (c.in_err-push_back.ensures.items ∙ c.loop-index.invariant.strings)
