use Rattle.std.proofs.Common.{fold, get_or, sym, ap, ◌∙◌}
use Rattle.std.proofs.lemmas.List.{take_all}
use Rattle.std.proofs.lemmas.List.Sums.{fold_more}
use Rattle.ivy_join.specs.Latest.{hash_of, hash_with}
use Rattle.ivy_join.proofs.strings.hash_of.Goals as goal

pub loop-byte-preserved : goal.loop-byte-preserved
unfolding hash_with
loop-byte-preserved c =
    ap (λ b. hash_with c.loop-byte.hash b) c.from.ensures
    ∙ ap (λ h. hash_with h (get_or c.args.bytes.now c.loop-byte.byte-index 0)) c.loop-byte.invariant
    ∙ sym (fold_more hash_with 0xcbf2_9ce4_8422_2325 c.args.bytes.now c.loop-byte.byte-index 0
    c.loop-byte-test.true)

pub returns : goal.returns
unfolding hash_of
returns c =
    c.loop-byte.invariant
    ∙ ap (fold hash_with 0xcbf2_9ce4_8422_2325)
    (take_all c.loop-byte.byte-index c.args.bytes.now c.loop-byte-test.false)
