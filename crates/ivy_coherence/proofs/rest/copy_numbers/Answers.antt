use Rattle.std.proofs.Common.{◌≡◌, ℕ, ◌+◌, ◌-◌, ◌*◌, ◌∙◌, take, drop, ap, arith}
use Rattle.ivy_model.specs.stated.Serves.{overwrite}
use Rattle.ivy_coherence.specs.Rests.{outs_of}
use Rattle.ivy_coherence.proofs.batches.Takes.{copied_behind, stores_give}
use Rattle.ivy_coherence.proofs.rest.copy_numbers.Goals as goal

pub returns-in-Loads-clause-outs : goal.returns-in-Loads-clause-outs
returns-in-Loads-clause-outs c =
    let count : c.args.start + 8 * c.args.words - c.args.start ≡ 8 * c.args.words = omega arith in
    ap (outs_of c.args.kind)
    (copied_behind c.args.words c.args.start c.args.into.now c.put.new.into c.args.from.now
    (c.requires.room c.in-Loads.is) c.requires.within
    (c.put.ensures.bytes
    ∙ ap (λ (k : ℕ). overwrite c.args.into.now 8 (take k (drop c.args.start c.args.from.now))) count))

pub returns-in-Stores-clause-outs : goal.returns-in-Stores-clause-outs
returns-in-Stores-clause-outs c =
    rw c.in-Stores.is (stores_give c.args.words (drop 8 c.args.into.now)
    (drop c.args.start c.args.from.now))
