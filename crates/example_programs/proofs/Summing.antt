-- All nodes read the sum of their numbers.
use Rattle.std.proofs.Common.{◌≡◌, ℕ, zero, suc, ◌+◌, ◌-◌, ◌*◌, ◌<◌, List, [], ◌∷◌, length, Some}
use Rattle.std.proofs.Common.{refl, sym, ap, ap₂, subst, ◌∙◌, zero-add, arith}
use Rattle.std.specs.Prelude.{slice_get}
use Rattle.std.specs.List.{slice_index_or}
use Rattle.ivy_calls.specs.Answers.{answers_of}
use Rattle.ivy_model.specs.stated.Memory.{first}
use Rattle.ivy_sync.specs.meeting.Sums.{sum_up_to, AddsOnce}
use Rattle.ivy_sync.proofs.answers.First.{first_word, first_count, first_run}
use Rattle.ivy_sync.proofs.meeting.Sums.{sums-are_whole}
use Rattle.example_programs.specs.AddsUp.{AllReadTheSum}

-- twice the sum of the numbers below n
twice_below : (n : ℕ) → 2 * sum_up_to (λ i. i) n ≡ n * (n - 1)
twice_below zero = refl
twice_below (suc zero) = refl
twice_below (suc (suc n)) =
    let e = twice_below (suc n) in
    let less : suc n - 1 ≡ n = omega arith in
    let less' : suc (suc n) - 1 ≡ suc n = omega arith in
    let e' : 2 * sum_up_to (λ i. i) (suc n) ≡ suc n * n = e ∙ ap (λ x. suc n * x) less in
    let step : 2 * sum_up_to (λ i. i) (suc n) + 2 * suc n ≡ suc (suc n) * suc n =
    ap (λ x. x + 2 * suc n) e'
    ∙ (let k : suc n * n + 2 * suc n ≡ suc (suc n) * suc n = grind arith in k) in
    (let k : 2 * (sum_up_to (λ i. i) (suc n) + suc n) ≡ 2 * sum_up_to (λ i. i) (suc n) + 2 * suc n =
    omega arith in k)
    ∙ step ∙ ap (λ x. suc (suc n) * x) (sym less')

-- the item at an index of a list
pub item_at : {A : Type 0} (xs : List A) (k : ℕ) (d : A) → k < length xs
    → slice_get xs k ≡ Some (slice_index_or xs k d)
item_at [] k d h = absurd (omega (arith, h))
item_at (x ∷ xs) zero d h = refl
item_at (x ∷ xs) (suc k) d h = item_at xs k d (omega (arith, h))

pub all-read_the_sum : AllReadTheSum
all-read_the_sum c work order outs place shared k d below =
    let all = shared.all in
    let least : 0 + c.nodes ≡ work.barrier.passed + work.barrier.nodes =
    ap₂ (λ (x : ℕ) (y : ℕ). x + y) (sym place.first) (sym place.nodes) in
    let h = shared.config in
    let there : k < c.nodes = omega (arith, below, all) in
    let whole =
    sums-are_whole c (first c) shared.legal.0 order work.lock.addr work.sum work.barrier.count 0
    (λ i. i) (λ i. slice_index_or outs i d) (first_run c order shared.legal.0 h shared.legal.1)
    place.lock place.sum place.apart (first_word c work.lock.addr)
    (first_count c work.barrier.count place.count)
    (λ i l. subst (λ n. AddsOnce work.lock.addr work.sum work.barrier.count n i (answers_of i order)
    (slice_index_or outs i d)) (sym least)
    (shared.each i (slice_index_or outs i d) (item_at outs i d (omega (arith, l, all))))) k there in
    let zero_there = first_word c work.sum in
    ap (λ n. 2 * n) (whole ∙ ap (λ w. w + sum_up_to (λ i. i) c.nodes) zero_there
    ∙ zero-add (sum_up_to (λ i. i) c.nodes)) ∙ twice_below c.nodes
