use Rattle.std.proofs.Common.{◌≡◌, ℕ, ◌+◌, ◌-◌, ◌*◌, ◌≤◌, true, List, ◌++◌, ◌∙◌, drop, sym, ap, arith, rules}
use Rattle.ivy_model.specs.declared.Row.{Row}
use Rattle.ivy_model.specs.Rows.{numbers_in}
use Rattle.ivy_pagetable.specs.declared.Out.{Out}
use Rattle.ivy_coherence.specs.Rests.{Behind, outs_of}
use Rattle.ivy_coherence.proofs.batches.Takes.{all_given, row_left}
use Rattle.ivy_coherence.proofs.rest.Rest.take_row.Goals as goal

pub returns-clause-outs : goal.returns-clause-outs
returns-clause-outs g c =
    let held : c.is_same.result ≡ true = search rules in
    let few : c.min-words.result ≤ c.self.inside.left = omega (arith, c.min-words.ensures) in
    let words : ℕ = c.min-words.result in
    let there : List ℕ = drop c.self.inside.offset c.self.inside.bytes.items in
    let copied : outs_of c.self.inside.kind (numbers_in words there)
    ≡ outs_of c.args.kind (numbers_in words (drop 8 c.copy_numbers.new.into)) =
    sym (ap (λ (k : Row). outs_of k (numbers_in words there)) (c.is_same.ensures.same held))
    ∙ sym (c.copy_numbers.ensures.outs
    ∙ ap (λ (b : List ℕ). outs_of c.args.kind (numbers_in words (drop c.self.inside.offset b)))
    c.deref.ensures.value) in
    sym (ap (λ (r : Behind). r.outs) c.self.view_is)
    ∙ row_left c.self.inside.kind c.self.inside.offset c.self.inside.left words
    c.self.inside.bytes.items few
    ∙ ap (λ (os : List Out). os
    ++ outs_of c.self.inside.kind (numbers_in (c.self.inside.left - words)
    (drop (c.self.inside.offset + 8 * words) c.self.inside.bytes.items))) copied

pub returns-clause-many : goal.returns-clause-many
returns-clause-many g c =
    let held : c.is_same.result ≡ true = search rules in
    let all = all_given c.args.kind c.self.inside.kind c.self.inside.offset c.self.inside.waiting
    c.self.inside.left c.self.inside.bytes.items c.args.self.now c.self.view_is
    (c.is_same.ensures.same held) in
    omega (arith, c.min-words.ensures, all)
