use Rattle.std.proofs.Common.{ℕ, ◌∙◌, arith, slice_index, ap}
use Rattle.std.proofs.lemmas.Nat.{and_mask}
use Rattle.hex.specs.Hex.{lower_digits}
use Rattle.hex.proofs.Pairs.{encode_step, encode_done}
use Rattle.ivy_logs.proofs.write.put_digits.Goals as goal

pub loop-at-preserved : goal.loop-at-preserved
loop-at-preserved c =
    let byte : ℕ = slice_index c.args.bytes.now c.loop-at.at in
    encode_step lower_digits c.args.bytes.now c.loop-at.places c.loop-at.at _ _ (omega arith) (omega arith)
    c.digit.ensures (c.digit-in-loop-at.ensures ∙ ap (λ k. slice_index lower_digits k) (and_mask byte 4))
    c.loop-at.invariant

pub returns : goal.returns
returns c =
    encode_done lower_digits c.args.bytes.now c.loop-at.places c.loop-at.at (omega arith) (omega arith)
    c.loop-at.invariant
