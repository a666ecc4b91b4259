-- Each job is done once.
use Rattle.std.proofs.Common.{◌≡◌, ℕ, zero, suc, ◌+◌, ◌*◌, ◌^◌, ◌<◌, ◌≤◌, ◌⊎◌, inl, inr, cond, List}
use Rattle.std.proofs.Common.{[]}
use Rattle.std.proofs.Common.{◌∷◌, ◌++◌, map, length, Some, refl, sym, ap, ap₂, subst, ◌∙◌, arith}
use Rattle.std.proofs.Common.{length-append}
use Rattle.std.specs.Prelude.{slice_get, nat_eq, count_by}
use Rattle.std.specs.List.{AllByRecursion as Each, range_with_len, slice_index_or}
use Rattle.std.specs.Global.{Vec}
use Rattle.std.proofs.lemmas.Bool.{cases_lt, eq-eqb, ne_eqb}
use Rattle.std.proofs.lemmas.List.Sums.{sum_by-append}
use Rattle.std.proofs.lemmas.List.{length-map}
use Rattle.std.proofs.Math.Nat.{mul-le-mul_right}
use Rattle.ivy_model.specs.declared.config.Config.{Config}
use Rattle.ivy_model.specs.declared.call.Record.{Record}
use Rattle.ivy_model.specs.stated.Memory.{first}
use Rattle.ivy_calls.specs.Answers.{answers, answers_of}
use Rattle.ivy_calls.specs.Shared.{AreShared}
use Rattle.ivy_sync.specs.Doing.{draws}
use Rattle.ivy_sync.specs.excluding.Registers.{ReadsTheLast}
use Rattle.ivy_sync.specs.meeting.Sums.{sum_up_to}
use Rattle.ivy_sync.specs.HeapWords.{IsHeapWord, LeadsThrough}
use Rattle.ivy_sync.proofs.answers.Cuts.{all_parts, nodes_there}
use Rattle.ivy_sync.proofs.answers.First.{first_run, first_word}
use Rattle.ivy_sync.proofs.excluding.Registers.{reads_all}
use Rattle.ivy_sync.proofs.answers.AnswerTotals.{tally, parts_tally}
use Rattle.example_programs.specs.Farm.{HasWorked, times_done, EachJobOnce}
use Rattle.example_programs.specs.declared.farm.Farm.{Farm}
use Rattle.example_programs.proofs.Drawing.{IsDrawn, all_drawn, drawn_whole, drawn_range, is_of}
use Rattle.example_programs.proofs.Drawing.{tally_drawn, tally_all, past_range, once_in_range}
use Rattle.example_programs.proofs.Summing.{item_at}

-- a sum of numbers is at least each of them, and at most so many times the greatest
part_most : (f : ℕ → ℕ) (n i : ℕ) → i < n → f i ≤ sum_up_to f n
part_most f zero i l = absurd (omega arith)
part_most f (suc n) i l =
    elim (cases_lt i n) [
      | inl below ↦ let e = part_most f n i below in omega (arith, e)
      | inr past ↦
          let same : i ≡ n = omega arith in
          let e : f i ≡ f n = ap f same in omega (arith, e)
    ]

pub sum_most : (f : ℕ → ℕ) (n most : ℕ) → ((i : ℕ) → i < n → f i ≤ most) → sum_up_to f n ≤ n * most
sum_most f zero most h = omega arith
sum_most f (suc n) most h =
    let e = sum_most f n most (λ i l. h i (omega arith)) in
    let last = h n (omega arith) in
    let more : suc n * most ≡ n * most + most = grind arith in omega (arith, e, last, more)

-- and may be taken from its first number on
sum_from_first : (f : ℕ → ℕ) (n : ℕ) → sum_up_to f (suc n) ≡ f 0 + sum_up_to (λ i. f (suc i)) n
sum_from_first f zero = omega arith
sum_from_first f (suc n) = let e = sum_from_first f n in omega (arith, e)

times_by : (job : ℕ) (f : ℕ → ℕ) (outs : List (Vec ℕ))
    → ((i : ℕ) (out : Vec ℕ) → slice_get outs i ≡ Some out → count_by (nat_eq job) out.items ≡ f i)
    → times_done job outs ≡ sum_up_to f (length outs)
times_by job f [] h = refl
times_by job f (out ∷ outs) h =
    ap₂ (λ (x : ℕ) (y : ℕ). x + y) (h 0 out refl)
    (times_by job (λ i. f (suc i)) outs (λ i o e. h (suc i) o e))
    ∙ sym (sum_from_first f (length outs))

-- a number that is no job's counts for none
none_over : (job jobs : ℕ) (over : List ℕ) → job < jobs
    → (over ≡ []) ⊎ ((more : ℕ) × (jobs ≤ more) × (over ≡ more ∷ []))
    → count_by (nat_eq job) over ≡ 0
none_over job jobs over less (inl none) = ap (count_by (nat_eq job)) none
none_over job jobs over less (inr w) =
    let past = w.1 in
    ap (count_by (nat_eq job)) w.2
    ∙ ap (λ b. 0 + cond b 1 0) (ne_eqb job w.0 (λ e. omega (arith, e, past, less)))

module _ (c : Config) (work : Farm) (order : List Record) (outs : List (Vec ℕ)) (d : Vec ℕ)
    (few_jobs : work.jobs < 2 ^ 32) (at : IsHeapWord c work.next)
    (shared : AreShared c (HasWorked work) order outs) where
  abbrev out_of : ℕ → Vec ℕ
  out_of i = slice_index_or outs i d

  worked : (i : ℕ) → i < c.nodes → HasWorked work i (answers_of i order) (out_of i)
  worked i l =
      let all = shared.all in
      shared.each i (out_of i) (item_at outs i d (omega (arith, l, all)))

  run : LeadsThrough c (first c) order shared.legal.0
  run = first_run c order shared.legal.0 shared.config shared.legal.1

  there : Each (λ (r : Record). r.node < c.nodes) order
  there = nodes_there c (first c) shared.legal.0 order shared.legal.1

  drawn : Each (IsDrawn work.next) (answers order)
  drawn =
      all_parts (IsDrawn work.next) c.nodes order there
      (λ i l. subst (Each (IsDrawn work.next)) (sym (worked i l).whole)
      (all_drawn work.next ((out_of i).items ++ (worked i l).over)))

  -- how many a node drew
  drew : (i : ℕ) (l : i < c.nodes)
      → length (answers_of i order) ≡ length (out_of i).items + length (worked i l).over
  drew i l =
      ap length (worked i l).whole ∙ length-map ((out_of i).items ++ (worked i l).over)
      (draws work.next)
      ∙ length-append (out_of i).items (worked i l).over

  over_most : (over : List ℕ) → (n jobs : ℕ)
      → ((n ≡ jobs) × (over ≡ [])) ⊎ ((more : ℕ) × (jobs ≤ more) × (over ≡ more ∷ []))
      → length over ≤ 1
  over_most over n jobs (inl w) = let e = ap length w.1 in omega (arith, e)
  over_most over n jobs (inr w) = let e = ap length w.2 in omega (arith, e)

  few : (i : ℕ) → i < c.nodes → tally (λ _. 1) (answers_of i order) ≤ work.jobs + 1
  few i l =
      let e = tally_all (answers_of i order) in
      let e' = drew i l in
      let most = (worked i l).few in
      let one = over_most (worked i l).over (length (out_of i).items) work.jobs
      (worked i l).stops in
      omega (arith, e, e', most, one)

  all_few : length (answers order) < 2 ^ 64
  all_few =
      let sum = sum_most (λ i. tally (λ _. 1) (answers_of i order)) c.nodes (work.jobs + 1) few in
      let same = parts_tally (λ _. 1) c.nodes order there in
      let all = tally_all (answers order) in
      let most = shared.config.nodes_to in
      let bound : c.nodes * (work.jobs + 1) ≤ 32 * (work.jobs + 1) =
      mul-le-mul_right (work.jobs + 1) most in
      omega (arith, sum, same, all, bound, few_jobs)

  -- the numbers in the order
  ranged : answers order ≡ map (draws work.next) (range_with_len 0 (length (answers order)))
  ranged =
      drawn_range work.next 0 (answers order) drawn (omega (arith, all_few))
      (subst (λ v. ReadsTheLast work.next v (answers order)) (first_word c work.next)
      (reads_all c (first c) shared.legal.0 order work.next run at
      (drawn_whole work.next (answers order) drawn)))

  times_in_order : (k : ℕ)
      → sum_up_to (λ i. tally (is_of k) (answers_of i order)) c.nodes
      ≡ count_by (nat_eq k) (range_with_len 0 (length (answers order)))
  times_in_order k =
      parts_tally (is_of k) c.nodes order there ∙ ap (tally (is_of k)) ranged
      ∙ tally_drawn work.next k (range_with_len 0 (length (answers order)))

  tally_of : (k i : ℕ) (l : i < c.nodes)
      → tally (is_of k) (answers_of i order)
      ≡ count_by (nat_eq k) (out_of i).items + count_by (nat_eq k) (worked i l).over
  tally_of k i l =
      ap (tally (is_of k)) (worked i l).whole
      ∙ tally_drawn work.next k ((out_of i).items ++ (worked i l).over)
      ∙ sum_by-append (λ m. cond (nat_eq k m) 1 0) (out_of i).items (worked i l).over

  -- node 0 saw that all are drawn
  first_there : 0 < c.nodes
  first_there = let from = shared.config.nodes_from in omega (arith, from)

  many : (over : List ℕ) → (worked 0 first_there).over ≡ over
      → ((length (out_of 0).items ≡ work.jobs) × (over ≡ []))
      ⊎ ((more : ℕ) × (work.jobs ≤ more) × (over ≡ more ∷ []))
      → work.jobs ≤ length (answers order)
  many over is (inl w) =
      let part = part_most (λ i. tally (λ _. 1) (answers_of i order)) c.nodes 0 first_there in
      let same = parts_tally (λ _. 1) c.nodes order there in
      let all = tally_all (answers order) in
      let own = tally_all (answers_of 0 order) in
      let e = drew 0 first_there in
      let long = w.0 in
      omega (arith, part, same, all, own, e, long)
  many over is (inr w) =
      elim (cases_lt w.0 (length (answers order))) [
        | inl below ↦ let past = w.1 in omega (arith, past, below)
        | inr past ↦
            let none = past_range w.0 0 (length (answers order)) (omega (arith, past)) in
            let part = part_most (λ i. tally (is_of w.0) (answers_of i order)) c.nodes 0 first_there
            in
            let all = times_in_order w.0 in
            let own = tally_of w.0 0 first_there in
            let one : count_by (nat_eq w.0) (worked 0 first_there).over ≡ 1 =
            ap (count_by (nat_eq w.0)) (is ∙ w.2)
            ∙ ap (λ b. 0 + cond b 1 0) (eq-eqb w.0 w.0 refl) in
            absurd (omega (arith, none, part, all, own, one))
      ]

  over_none : (n jobs : ℕ) (over : List ℕ)
      → ((n ≡ jobs) × (over ≡ [])) ⊎ ((more : ℕ) × (jobs ≤ more) × (over ≡ more ∷ []))
      → (over ≡ []) ⊎ ((more : ℕ) × (jobs ≤ more) × (over ≡ more ∷ []))
  over_none n jobs over (inl w) = inl w.1
  over_none n jobs over (inr w) = inr w

  pub once : (job : ℕ) → job < work.jobs → times_done job outs ≡ 1
  once job less =
      let all = shared.all in
      let enough = many (worked 0 first_there).over refl (worked 0 first_there).stops in
      times_by job (λ i. tally (is_of job) (answers_of i order)) outs
      (λ i out e. count_there job less i out e (in_list outs i out e))
      ∙ ap (λ n. sum_up_to (λ i. tally (is_of job) (answers_of i order)) n) all
      ∙ times_in_order job
      ∙ once_in_range job 0 (length (answers order)) (omega arith) (omega (arith, less, enough))
    where
      in_list : {A : Type 0} (xs : List A) (i : ℕ) (x : A) → slice_get xs i ≡ Some x → i < length xs
      in_list [] i x e = absurd (cc)
      in_list (y ∷ ys) zero x e = omega arith
      in_list (y ∷ ys) (suc i) x e = let l = in_list ys i x e in omega (arith, l)

      count_there : (job : ℕ) → job < work.jobs → (i : ℕ) (out : Vec ℕ) → slice_get outs i
          ≡ Some out
          → i < length outs
          → count_by (nat_eq job) out.items ≡ tally (is_of job) (answers_of i order)
      count_there job less i out e l =
          let all = shared.all in
          let w = shared.each i out e in
          let none = none_over job work.jobs w.over less (over_none
          (length out.items) work.jobs w.over
          w.stops) in
          let sum : tally (is_of job) (answers_of i order)
          ≡ count_by (nat_eq job) out.items + count_by (nat_eq job) w.over =
          ap (tally (is_of job)) w.whole ∙ tally_drawn work.next job (out.items ++ w.over)
          ∙ sum_by-append (λ m. cond (nat_eq job m) 1 0) out.items w.over in
          omega (arith, sum, none)

some_out : (outs : List (Vec ℕ)) → 0 < length outs → Vec ℕ
some_out [] h = absurd (omega (arith, h))
some_out (out ∷ outs) h = out

pub each-job_once : EachJobOnce
each-job_once c work order outs few at shared = (
  λ job less. once c work order outs (some_out outs (let all = shared.all in let from =
      shared.config.nodes_from in omega (arith, all, from))) few at shared job less,
  λ k d l. (shared.each k (slice_index_or outs k d) (item_at outs k d l)).jobs,
)
