use Rattle.std.proofs.Common.{refl, arith}
use Rattle.ivy_wire.proofs.Frames.{spelled_long, head_spelled}
use Rattle.ivy_wire.proofs.reading.head_of.Goals as goal

pub returns : goal.returns
returns c = λ k f s.
    let e =
    head_spelled k f c.args.bytes.now c.frame_number_at.result c.ack_at.result s
    c.frame_number_at.ensures c.ack_at.ensures in
    rw (e.0, e.1, e.2, e.3) refl

pub frame_number_at-requires : goal.frame_number_at-requires
frame_number_at-requires c =
    spelled_long c.requires.0 c.requires.1 c.args.bytes.now c.requires.2

pub ack_at-requires : goal.ack_at-requires
ack_at-requires c = spelled_long c.requires.0 c.requires.1 c.args.bytes.now c.requires.2

pub bounds-bytes-4 : goal.bounds-bytes-4
bounds-bytes-4 c =
    let long = spelled_long c.requires.0 c.requires.1 c.args.bytes.now c.requires.2 in omega arith

pub bounds-bytes-5 : goal.bounds-bytes-5
bounds-bytes-5 c =
    let long = spelled_long c.requires.0 c.requires.1 c.args.bytes.now c.requires.2 in omega arith
