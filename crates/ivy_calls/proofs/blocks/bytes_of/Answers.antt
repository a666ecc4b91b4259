use Rattle.std.proofs.Common.{◌≡◌, ℕ, ◌+◌, ◌-◌, ◌*◌, ◌≤◌, List, ◌++◌, length, replicate, ap₂, ◌∙◌, arith, subst}
use Rattle.std.proofs.lemmas.List.{places, replicate_more}
use Rattle.ivy_model.specs.Rows.{numbers_in}
use borrow.Rule.Slice.PartMut.{put_mid}
use Rattle.ivy_calls.proofs.BlockAnswers.{numbers_in-append, put_before, put_there}
use Rattle.ivy_calls.proofs.blocks.bytes_of.Goals as goal

pub loop-word-preserved : goal.loop-word-preserved
loop-word-preserved c =
    let m : ℕ = c.loop-word.word in
    let bytes : List ℕ = c.loop-word.bytes in
    let part : List ℕ = c.put_number.new.into in
    let k : ℕ = 8 * m + 8 - 8 * m in
    let all : List ℕ = put_mid (8 * m) k bytes part in
    let from : 8 * m ≤ length bytes = omega arith in
    let fits : 8 * 1 ≤ length part = grind (arith, places) in
    numbers_in-append m 1 all
    ∙ ap₂ (λ (xs ys : List ℕ). xs ++ ys) (put_before m k bytes part from ∙ c.loop-word.invariant)
    (put_there m k bytes part from 1 fits ∙ c.put_number.ensures.number)
    ∙ replicate_more m c.args.number

pub returns : goal.returns
returns c =
    let all : c.loop-word.word ≡ 64 = omega arith in
    subst (λ n. numbers_in n c.loop-word.bytes ≡ replicate n c.args.number) all c.loop-word.invariant
