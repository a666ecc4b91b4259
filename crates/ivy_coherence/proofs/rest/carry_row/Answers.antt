use Rattle.std.proofs.Common.{◌≡◌, ◌+◌, ◌-◌, ◌*◌, ◌∙◌, ℕ, List, take, drop, arith, ap, sym, refl}
use Rattle.ivy_model.specs.declared.Row.TheVariants.{Stores}
use Rattle.ivy_model.specs.Rows.{numbers_in}
use Rattle.ivy_model.specs.stated.Serves.{overwrite}
use Rattle.ivy_coherence.specs.stated.Several.{AllCarried, all_carried}
use Rattle.ivy_coherence.specs.Rests.{row_words, outs_of}
use Rattle.ivy_coherence.proofs.batches.Rests.{loads_same, loads_carried, stores_kept, stores_carried}
use Rattle.ivy_coherence.proofs.rest.carry_row.Goals as goal

pub returns-in-Loads-clause-words : goal.returns-in-Loads-clause-words
returns-in-Loads-clause-words g c =
    rw c.in-Loads.is (loads_same c.args.words c.args.start (drop c.args.start c.put.new.into)
    (drop c.args.start c.args.bytes.now))

pub returns-in-Loads-clause-came : goal.returns-in-Loads-clause-came
returns-in-Loads-clause-came g c =
    let count : c.args.start + 8 * c.args.words - c.args.start ≡ 8 * c.args.words = omega arith in
    let put : c.put.new.into ≡ overwrite c.args.bytes.now c.args.start
    (take (8 * c.args.words) (drop c.args.start c.args.page.now)) =
    c.put.ensures.bytes
    ∙ ap (λ (k : ℕ). overwrite c.args.bytes.now c.args.start
    (take k (drop c.args.start c.bytes.result.now))) count
    ∙ ap (λ (b : List ℕ). overwrite c.args.bytes.now c.args.start
    (take (8 * c.args.words) (drop c.args.start b))) c.bytes.ensures in
    rw c.in-Loads.is
    (sym (ap (λ (r : AllCarried). r.outs) (loads_carried c.args.words c.args.start c.args.bytes.now
    c.put.new.into c.args.page.now c.requires.aligned c.requires.within c.requires.sized put)))

pub returns-in-Loads-clause-page : goal.returns-in-Loads-clause-page
returns-in-Loads-clause-page g c =
    rw c.in-Loads.is
    (sym (ap (λ (r : AllCarried). r.bytes) (loads_carried c.args.words c.args.start c.args.bytes.now
    _ c.args.page.now c.requires.aligned c.requires.within c.requires.sized refl)))

pub returns-in-Stores-clause-words : goal.returns-in-Stores-clause-words
returns-in-Stores-clause-words g c =
    let put = rw (c.put-in-Stores.ensures.bytes, c.bytes-in-Stores.ensures, c.bytes-in-Stores-2.ensures)
    at c.put-in-Stores-2.ensures.bytes in
    ap (row_words c.args.kind c.args.start)
    (stores_kept c.args.words c.args.start c.args.bytes.now c.put-in-Stores-2.new.into
    c.args.page.now c.requires.within c.requires.sized put)

pub returns-in-Stores-clause-came : goal.returns-in-Stores-clause-came
returns-in-Stores-clause-came g c =
    let put = rw (c.put-in-Stores.ensures.bytes, c.bytes-in-Stores.ensures, c.bytes-in-Stores-2.ensures)
    at c.put-in-Stores-2.ensures.bytes in
    rw c.in-Stores.is
    (ap (outs_of Stores) (stores_kept c.args.words c.args.start c.args.bytes.now
    c.put-in-Stores-2.new.into c.args.page.now c.requires.within c.requires.sized put)
    ∙ sym (ap (λ (r : AllCarried). r.outs) (stores_carried c.args.words c.args.start
    c.args.bytes.now c.put-in-Stores-2.new.into c.args.page.now c.requires.aligned
    c.requires.within c.requires.sized c.put-in-Stores.ensures.fact put)))

pub returns-in-Stores-clause-page : goal.returns-in-Stores-clause-page
returns-in-Stores-clause-page g c =
    let put = rw (c.put-in-Stores.ensures.bytes, c.bytes-in-Stores.ensures, c.bytes-in-Stores-2.ensures)
    at c.put-in-Stores-2.ensures.bytes in
    let all : c.put-in-Stores-2.new.into ≡ (all_carried (row_words c.args.kind c.args.start
    (numbers_in c.args.words (drop c.args.start c.args.bytes.now))) c.args.page.now).bytes =
    rw c.in-Stores.is
    (sym (ap (λ (r : AllCarried). r.bytes) (stores_carried c.args.words c.args.start
    c.args.bytes.now c.put-in-Stores-2.new.into c.args.page.now c.requires.aligned
    c.requires.within c.requires.sized c.put-in-Stores.ensures.fact put))) in
    c.copy_from.ensures ∙ all
