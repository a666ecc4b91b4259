-- Sums of the numbers that belong to the numbers below another one, and to the parcels between
-- nodes.
use Rattle.std.proofs.Common.{◌≡◌, ◌≢◌, ◌≤◌, ◌<◌, ◌+◌, ℕ, zero, suc, Bool, true, false, List, [], ◌∷◌, refl, sym, ap, inl, inr, arith, subst, if◌then◌else◌, ◌==◌, ◌&&◌}
use Rattle.std.specs.Prelude.{sum_by}
use Rattle.std.proofs.lemmas.Bool.{and_right, cases_eq, ne_eqb}
use Rattle.std.proofs.lemmas.List.Sums.{sum_by-cons}
use Rattle.ivy_wire.specs.stated.Data.{Message, Parcel}
use Rattle.ivy_link.specs.stated.Paired.{posted}
use Rattle.proof_worlds.specs.progress.Ending.{sum_below}

pub sum_le : (n : ℕ) (f g : ℕ → ℕ) → ((i : ℕ) → i < n → f i ≤ g i) → sum_below n f ≤ sum_below n g
sum_le zero f g le = omega arith
sum_le (suc n) f g le =
    let a : sum_below n f ≤ sum_below n g = sum_le n f g (λ i lt. le i (omega (arith, lt))) in
    let b : f n ≤ g n = le n (omega arith) in
    omega (arith, a, b)

-- one term is less
pub sum_less : (n x : ℕ) (f g : ℕ → ℕ) → ((i : ℕ) → i < n → f i ≤ g i) → x < n → f x < g x
    → sum_below n f < sum_below n g
sum_less zero x f g le lt less = absurd (omega (arith, lt))
sum_less (suc n) x f g le lt less = elim (cases_eq x n) [
  | inl same ↦
      (let a : sum_below n f ≤ sum_below n g = sum_le n f g (λ i l. le i (omega (arith, l))) in
      let b : f n < g n = subst (λ v. f v < g v) same less in
      omega (arith, a, b))
  | inr ne ↦
      (let a : sum_below n f < sum_below n g =
      sum_less n x f g (λ i l. le i (omega (arith, l))) (omega (arith, lt, ne)) less in
      let b : f n ≤ g n = le n (omega arith) in
      omega (arith, a, b))
]

-- one term changes, and the others are no more
pub sum_change : (n x : ℕ) (f g : ℕ → ℕ) → x < n → ((i : ℕ) → i < n → i ≢ x → g i ≤ f i)
    → sum_below n g + f x ≤ sum_below n f + g x
sum_change zero x f g lt others = absurd (omega (arith, lt))
sum_change (suc n) x f g lt others = elim (cases_eq x n) [
  | inl same ↦
      (let a : sum_below n g ≤ sum_below n f =
      sum_le n g f (λ i l. others i (omega (arith, l)) (omega (arith, l, same))) in
      let b : f x ≡ f n = ap f same in
      let d : g x ≡ g n = ap g same in
      omega (arith, a, b, d))
  | inr ne ↦
      (let a : sum_below n g + f x ≤ sum_below n f + g x =
      sum_change n x f g (omega (arith, lt, ne)) (λ i l. others i (omega (arith, l))) in
      let b : g n ≤ f n = others n (omega arith) (omega (arith, ne)) in
      omega (arith, a, b))
]

pub sum_add : (n : ℕ) (f g : ℕ → ℕ)
    → sum_below n (λ i. f i + g i) ≡ sum_below n f + sum_below n g
sum_add zero f g = omega arith
sum_add (suc n) f g =
    let a : sum_below n (λ i. f i + g i) ≡ sum_below n f + sum_below n g = sum_add n f g in
    omega (arith, a)

pub sum_zero : (n : ℕ) (f : ℕ → ℕ) → ((i : ℕ) → i < n → f i ≡ 0) → sum_below n f ≡ 0
sum_zero zero f none = refl
sum_zero (suc n) f none =
    let a : sum_below n f ≡ 0 = sum_zero n f (λ i l. none i (omega (arith, l))) in
    let b : f n ≡ 0 = none n (omega arith) in
    omega (arith, a, b)

-- all terms but one are zero
pub sum_only : (n x v : ℕ) (f : ℕ → ℕ) → ((i : ℕ) → i ≢ x → f i ≡ 0) → f x ≤ v
    → sum_below n f ≤ v
sum_only zero x v f others most = omega arith
sum_only (suc n) x v f others most = elim (cases_eq x n) [
  | inl same ↦
      (let a : sum_below n f ≡ 0 = sum_zero n f (λ i l. others i (omega (arith, l, same))) in
      let b : f x ≡ f n = ap f same in
      omega (arith, a, b, most))
  | inr ne ↦
      (let a : sum_below n f ≤ v = sum_only n x v f others most in
      let b : f n ≡ 0 = others n (omega (arith, ne)) in
      omega (arith, a, b))
]

-- what is posted is counted once, at the pair of its nodes
module _ (n : ℕ) (f : ℕ → Message → ℕ) where
  abbrev pub count_posted : List Parcel → ℕ
  count_posted ps = sum_below n (λ i. sum_below n (λ j. sum_by (f j) (posted i j ps)))

  abbrev pub parcels : List Parcel → ℕ
  parcels ps = sum_by (λ (p : Parcel). f p.dest p.message) ps

  abbrev one_at : Parcel → ℕ → ℕ → ℕ
  one_at p i j = if p.source == i && p.dest == j then f j p.message else 0

  none_if : (b : Bool) (v : ℕ) → b ≡ false → (if b then v else 0) ≡ 0
  none_if b v is = ap (λ t. if t then v else 0) is

  at_most : (b : Bool) (v : ℕ) → (if b then v else 0) ≤ v
  at_most true v = omega arith
  at_most false v = omega arith

  one_posted : (p : Parcel)
      → sum_below n (λ i. sum_below n (λ j. one_at p i j)) ≤ f p.dest p.message
  one_posted p =
      sum_only n p.source (f p.dest p.message) (λ i. sum_below n (λ j. one_at p i j))
      (λ i ne. sum_zero n (λ j. one_at p i j) (λ j lt.
      none_if (p.source == i && p.dest == j) (f j p.message)
      (ap (λ b. b && p.dest == j) (ne_eqb p.source i (λ e. ne (sym e))))))
      (sum_only n p.dest (f p.dest p.message) (λ j. one_at p p.source j)
      (λ j ne. none_if (p.source == p.source && p.dest == j) (f j p.message)
      (and_right (p.source == p.source) (p.dest == j) (ne_eqb p.dest j (λ e. ne (sym e)))))
      (at_most (p.source == p.source && p.dest == p.dest) (f p.dest p.message)))

  both_ways : (b : Bool) (g : Message → ℕ) (m : Message) (ms : List Message)
      → sum_by g (if b then m ∷ ms else ms) ≡ (if b then g m else 0) + sum_by g ms
  both_ways true g m ms = sum_by-cons g m ms
  both_ways false g m ms = omega arith

  pub posted_once : (ps : List Parcel) → count_posted ps ≤ parcels ps
  posted_once [] =
      let a : count_posted [] ≡ 0 = sum_zero n (λ i. sum_below n (λ j. 0))
      (λ i lt. sum_zero n (λ j. 0) (λ j l. refl)) in
      omega (arith, a)
  posted_once (p ∷ ps) =
      let rest : count_posted ps ≤ parcels ps = posted_once ps in
      let first : sum_below n (λ i. sum_below n (λ j. one_at p i j)) ≤ f p.dest p.message
      = one_posted p in
      let all : parcels (p ∷ ps) ≡ f p.dest p.message + parcels ps =
      sum_by-cons (λ (q : Parcel). f q.dest q.message) p ps in
      let split : sum_below n (λ i. sum_below n (λ j. one_at p i j) + sum_below n (λ j.
      sum_by (f j) (posted i j ps)))
      ≡ sum_below n (λ i. sum_below n (λ j. one_at p i j)) + count_posted ps =
      sum_add n (λ i. sum_below n (λ j. one_at p i j))
      (λ i. sum_below n (λ j. sum_by (f j) (posted i j ps))) in
      let less : count_posted (p ∷ ps)
      ≤ sum_below n (λ i. sum_below n (λ j. one_at p i j) + sum_below n (λ j.
      sum_by (f j) (posted i j ps))) =
      sum_le n (λ i. sum_below n (λ j. sum_by (f j) (posted i j (p ∷ ps)))) _
      (λ i lt. (let one : sum_below n (λ j. one_at p i j + sum_by (f j) (posted i j ps))
      ≡ sum_below n (λ j. one_at p i j) + sum_below n (λ j. sum_by (f j) (posted i j ps)) =
      sum_add n (λ j. one_at p i j) (λ j. sum_by (f j) (posted i j ps)) in
      let two : sum_below n (λ j. sum_by (f j) (posted i j (p ∷ ps)))
      ≤ sum_below n (λ j. one_at p i j + sum_by (f j) (posted i j ps)) =
      sum_le n (λ j. sum_by (f j) (posted i j (p ∷ ps))) _
      (λ j l. (let e = both_ways (p.source == i && p.dest == j) (f j) p.message (posted i j ps) in
      omega (arith, e))) in
      omega (arith, one, two))) in
      omega (arith, rest, first, all, split, less)
