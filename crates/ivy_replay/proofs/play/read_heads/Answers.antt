use Rattle.std.proofs.Common.{◌≡◌, length, slice_get, Some, refl, arith}
use Rattle.std.proofs.lemmas.Option.{slice_get_read}
use Rattle.ivy_replay.proofs.Heading.{none_yet, of_one, one_more}
use Rattle.ivy_replay.proofs.play.read_heads.Goals as goal

pub loop-index-init : goal.loop-index-init
loop-index-init c =
    none_yet c.args.config.now c.args.heads.now.items c.args.heads.now.items c.args.sent.now
    c.len-index.result refl (let count = c.len-index.ensures in omega arith)

pub loop-index-preserved : goal.loop-index-preserved
loop-index-preserved c =
    let got : slice_get c.args.sent.now c.loop-index.index ≡ Some c.index-sent-index.result =
    slice_get_read c.args.sent.now (length c.args.sent.now) c.loop-index.index
    c.index-sent-index.result refl c.loop-index-test.true c.index-sent-index.is in
    one_more c.args.config.now c.args.heads.now.items c.loop-index.heads.items
    c.push.new.self.items c.args.sent.now c.loop-index.index c.in_ok-read.field-0 c.loop-index.invariant
    c.in_ok-push.ensures.items
    (of_one c.args.config.now c.args.sent.now c.loop-index.index c.index-sent-index.result
    c.bytes.result.now c.in_ok-read.field-0 got c.bytes.ensures c.in_ok-read.ensures.head)
