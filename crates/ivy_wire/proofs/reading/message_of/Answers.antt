use Rattle.std.proofs.Common.{◌≡◌, ◌∙◌, None, Some, Option, ap, sym, refl, arith}
use Rattle.ivy_wire.specs.declared.frame.FrameKind.{FrameKind}
use Rattle.ivy_wire.specs.stated.Reading.{message_at}
use Rattle.ivy_wire.specs.stated.DecodeErrors.{text_at}
use Rattle.ivy_wire.specs.stated.Data.{Frame}
use Rattle.ivy_wire.specs.stated.Spelling.{frame_kind, text_len, Spells}
use Rattle.ivy_wire.proofs.Frames.{spelled_long, spelled_read, kind_spelled, message_spelled_in}
use Rattle.ivy_wire.proofs.reading.message_of.Goals as goal

pub bounds-bytes-3 : goal.bounds-bytes-3
bounds-bytes-3 c =
    let long = spelled_long c.args.config.now c.requires.spelled.0 c.args.bytes.now c.requires.spelled.1 in
    omega arith

pub text_at-requires : goal.text_at-requires
text_at-requires c =
    spelled_long c.args.config.now c.requires.spelled.0 c.args.bytes.now c.requires.spelled.1

-- the kind in the string is that of a frame that it spells
module _ (c : goal.After-text_at) (f : Frame) (s : Spells c.args.config.now f c.args.bytes.now) where
  kind_is : c.in_ok-kind.kind ≡ frame_kind f.body
  kind_is =
      kind_spelled c.args.config.now f c.args.bytes.now c.requires.limits s _ c.in_ok-kind.kind refl
      c.in_ok-kind.ensures

pub message_at-requires-clause-len : goal.message_at-requires-clause-len
message_at-requires-clause-len c =
    let f : Frame = c.requires.spelled.0 in
    let s =
    (spelled_read c.args.config.now f c.args.bytes.now c.requires.limits c.requires.spelled.1).head in
    let long = c.text_at.ensures.len in
    omega (
      arith,
      long,
      s.len,
      s.text_len,
      ap (text_len c.args.config.now) (kind_is c f c.requires.spelled.1),
    )

pub returns : goal.returns
returns c = λ f s.
    c.message_at.ensures ∙ ap (message_at c.in_ok-kind.kind) c.text_at.ensures.text
    ∙ ap (λ k. message_at k (text_at c.args.bytes.now))
    (kind_spelled c.args.config.now f c.args.bytes.now c.requires.limits s _ c.in_ok-kind.kind refl
    c.in_ok-kind.ensures)
    ∙ message_spelled_in c.args.config.now f c.args.bytes.now c.requires.limits s

-- the string has a kind
no_kind : (k : FrameKind) (o : Option FrameKind) → o ≡ None → o ≡ Some k → ⊥
no_kind k o none some = let wrong : (let x : Option FrameKind = None in x) ≡ Some k = sym none ∙ some in cc

pub returns-in_err-kind : goal.returns-in_err-kind
returns-in_err-kind c = λ f s.
    absurd (no_kind (frame_kind f.body) c.kind_at.result c.in_err-kind.was
    (c.kind_at.ensures
    ∙ (spelled_read c.args.config.now f c.args.bytes.now c.requires.limits s).head.known))
