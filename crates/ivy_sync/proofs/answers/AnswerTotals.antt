-- Sums over the answers of an order are those over what each node was answered.
use Rattle.std.proofs.Common.{◌≡◌, ℕ, zero, suc, ◌+◌, ◌-◌, ◌<◌, ◌≤◌, inl, inr, Bool, true, false}
use Rattle.std.proofs.Common.{cond, List, [], ◌∷◌, ◌++◌, refl, sym, ap, ap₂, ◌∙◌, arith}
use Rattle.std.specs.Prelude.{◌==◌}
use Rattle.std.specs.List.{AllByRecursion as Each}
use Rattle.std.proofs.lemmas.Bool.{eq-eqb, ne_eqb, cases_order}
use Rattle.ivy_model.specs.declared.call.Record.{Record}
use Rattle.ivy_model.specs.stated.Explains.{part}
use Rattle.ivy_calls.specs.declared.answer.Answer.{Answer}
use Rattle.ivy_calls.specs.Answers.{answer, answers, answers_of}
use Rattle.ivy_sync.specs.meeting.Sums.{sum_up_to}
use Rattle.ivy_sync.proofs.answers.Lists.{none_at_end}

-- the sum over the items of a list
abbrev pub tally : {A : Type 0} → (A → ℕ) → List A → ℕ
tally f [] = 0
tally f (r ∷ rs) = f r + tally f rs

pub tally-append : {A : Type 0} (f : A → ℕ) (xs ys : List A)
    → tally f (xs ++ ys) ≡ tally f xs + tally f ys
tally-append f [] ys = omega arith
tally-append f (x ∷ xs) ys = let e = tally-append f xs ys in omega (arith, e)

pub sum_up_to-add : (f g : ℕ → ℕ) (n : ℕ) → sum_up_to (λ i. f i + g i) n
    ≡ sum_up_to f n + sum_up_to g n
sum_up_to-add f g zero = refl
sum_up_to-add f g (suc n) = let e = sum_up_to-add f g n in omega (arith, e)

pub sum_up_to-zero : (n : ℕ) → sum_up_to (λ _. 0) n ≡ 0
sum_up_to-zero zero = refl
sum_up_to-zero (suc n) = let e = sum_up_to-zero n in omega (arith, e)

pub sum_up_to-same : (f g : ℕ → ℕ) (n : ℕ) → ((i : ℕ) → i < n → f i ≡ g i) → sum_up_to f n
    ≡ sum_up_to g n
sum_up_to-same f g zero h = refl
sum_up_to-same f g (suc n) h =
    ap₂ (λ a b. a + b) (sum_up_to-same f g n (λ i l. h i (omega arith))) (h n (omega arith))

-- what stands at one number alone
total_past : (j x n : ℕ) → n ≤ j → sum_up_to (λ i. cond (j == i) x 0) n ≡ 0
total_past j x zero h = refl
total_past j x (suc n) h =
    let e = total_past j x n (omega arith) in
    let none : cond (j == n) x 0 ≡ 0 =
    ap (λ b. cond b x 0) (ne_eqb j n (λ same. omega (arith, same, h))) in
    omega (arith, e, none)

pub total_one : (j x n : ℕ) → j < n → sum_up_to (λ i. cond (j == i) x 0) n ≡ x
total_one j x zero h = absurd (omega arith)
total_one j x (suc n) h =
    elim (cases_order j n) [
      | inl same ↦
          let e = total_past j x n (omega arith) in
          let one : cond (j == n) x 0 ≡ x = ap (λ b. cond b x 0) (eq-eqb j n same) in
          omega (arith, e, one)
      | inr other ↦ elim other [
        | inl below ↦
            let e = total_one j x n below in
            let none : cond (j == n) x 0 ≡ 0 =
            ap (λ b. cond b x 0) (ne_eqb j n (λ same. omega (arith, same, below))) in
            omega (arith, e, none)
        | inr above ↦ absurd (omega arith)
      ]
    ]

-- a sum over an order is that of the sums over what each node was answered
tally_own : (f : Answer → ℕ) (r : Record) (rs : List Record) (b : Bool)
    → tally f (answers (cond b (r ∷ rs) rs)) ≡ cond b (f (answer r)) 0 + tally f (answers rs)
tally_own f r rs true = refl
tally_own f r rs false = omega arith

pub parts_tally : (f : Answer → ℕ) (n : ℕ) (rs : List Record)
    → Each (λ (r : Record). r.node < n) rs
    → sum_up_to (λ i. tally f (answers_of i rs)) n ≡ tally f (answers rs)
parts_tally f n [] h = sum_up_to-zero n
parts_tally f n (r ∷ rs) h =
    sum_up_to-same (λ i. tally f (answers_of i (r ∷ rs)))
    (λ i. cond (r.node == i) (f (answer r)) 0 + tally f (answers_of i rs)) n
    (λ i _. tally_own f r (part i rs) (r.node == i))
    ∙ sum_up_to-add (λ i. cond (r.node == i) (f (answer r)) 0) (λ i. tally f (answers_of i rs)) n
    ∙ ap₂ (λ a b. a + b) (total_one r.node (f (answer r)) n h.0) (parts_tally f n rs h.1)

pub total_least : (f : ℕ → ℕ) (n : ℕ) → ((i : ℕ) → i < n → 1 ≤ f i) → n ≤ sum_up_to f n
total_least f zero h = omega arith
total_least f (suc n) h =
    let e = total_least f n (λ i l. h i (omega arith)) in
    let last = h n (omega arith) in omega (arith, e, last)

pub total_most : (f : ℕ → ℕ) (n : ℕ) → ((i : ℕ) → i < n → f i ≤ 1) → sum_up_to f n ≤ n
total_most f zero h = omega arith
total_most f (suc n) h =
    let e = total_most f n (λ i l. h i (omega arith)) in
    let last = h n (omega arith) in omega (arith, e, last)

-- where n numbers of at most 1 make n, each is 1
pub each_one : (f : ℕ → ℕ) (n : ℕ) → ((i : ℕ) → i < n → f i ≤ 1) → sum_up_to f n ≡ n → (i : ℕ)
    → i < n
    → f i ≡ 1
each_one f zero h e i l = absurd (omega arith)
each_one f (suc n) h e i l =
    let most = total_most f n (λ j m. h j (omega arith)) in
    let last = h n (omega arith) in
    let rest : sum_up_to f n ≡ n = omega (arith, e, most, last) in
    let here : f n ≡ 1 = omega (arith, e, most, last) in
    elim (cases_order i n) [
      | inl same ↦ ap f same ∙ here
      | inr other ↦ elim other [
        | inl below ↦ each_one f n (λ j m. h j (omega arith)) rest i below
        | inr above ↦ absurd (omega arith)
      ]
    ]

-- the order up to where the sum over its answers comes to n
pub record IsSumCut (f : Answer → ℕ) (n : ℕ) (rs : List Record) : Type 0 where
  pub front : List Record
  pub back : List Record
  pub whole : rs ≡ front ++ back
  pub sum : tally f (answers front) ≡ n
  pub first : (us vs : List Record) (r : Record) → front ≡ us ++ r ∷ vs → tally f (answers us) < n

earlier : (f : Answer → ℕ) (m : ℕ) (r : Record) (front : List Record) → f (answer r) ≤ 1
    → ((us vs : List Record) (q : Record) → front ≡ us ++ q ∷ vs
    → tally f (answers us) < suc m - f (answer r))
    → (us vs : List Record) (q : Record) → r ∷ front ≡ us ++ q ∷ vs
    → tally f (answers us) < suc m
earlier f m r front most first [] vs q e = omega arith
earlier f m r front most first (u ∷ us) vs q e =
    let head : r ≡ u = cc in
    let tail : front ≡ us ++ q ∷ vs = cc in
    let less = first us vs q tail in
    let same : f (answer r) ≡ f (answer u) = ap (λ x. f (answer x)) head in
    omega (arith, less, same, most)

pub sum_cut : (f : Answer → ℕ) → ((r : Answer) → f r ≤ 1) → (n : ℕ) (rs : List Record)
    → n ≤ tally f (answers rs) → IsSumCut f n rs
sum_cut f one zero rs h = record {
  front = [];
  back = rs;
  whole = refl;
  sum = refl;
  first = λ us vs r e. absurd (none_at_end us vs r (sym e));
}
sum_cut f one (suc m) [] h = absurd (omega arith)
sum_cut f one (suc m) (r ∷ rs) h =
    let most = one (answer r) in
    let w = sum_cut f one (suc m - f (answer r)) rs (omega (arith, h, most)) in
    record {
      front = r ∷ w.front;
      back = w.back;
      whole = ap (λ l. r ∷ l) w.whole;
      sum = (let e = w.sum in omega (arith, e, most));
      first = λ us vs q e. earlier f m r w.front most w.first us vs q e;
    }
