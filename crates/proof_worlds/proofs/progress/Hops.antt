-- How many hops are left to a request: along the next hops, to the first node that claims the page.
use Rattle.std.proofs.Common.{◌≡◌, ◌≢◌, ◌≤◌, ◌<◌, ℕ, zero, suc, Bool, true, false, refl, sym, ap, ◌∙◌, inl, inr, ◌⊎◌, arith, subst, if◌then◌else◌}
use Rattle.std.proofs.Common.{ltb}
use Rattle.std.proofs.lemmas.Bool.{cases_Bool, cases_eq, lt-ltb, ltb-true, le-ltb}
use Rattle.proof_worlds.specs.progress.Ending.{sum_below}
use Rattle.proof_worlds.proofs.progress.NumberTotals.{sum_less}

-- with so many hops at most, where no node claims the page
abbrev pub hops_left : (ℕ → Bool) → (ℕ → ℕ) → ℕ → ℕ → ℕ
hops_left claiming hop zero node = 0
hops_left claiming hop (suc k) node =
    if claiming node then 0 else suc (hops_left claiming hop k (hop node))

pub hops_most : (claiming : ℕ → Bool) (hop : ℕ → ℕ) (k node : ℕ)
    → hops_left claiming hop k node ≤ k
hops_most claiming hop zero node = omega arith
hops_most claiming hop (suc k) node = elim (cases_Bool (claiming node)) [
  | inl here ↦
      (let a : hops_left claiming hop (suc k) node ≡ 0 =
      ap (λ b. if b then 0 else suc (hops_left claiming hop k (hop node))) here in
      omega (arith, a))
  | inr plain ↦
      (let a : hops_left claiming hop (suc k) node ≡ suc (hops_left claiming hop k (hop node)) =
      ap (λ b. if b then 0 else suc (hops_left claiming hop k (hop node))) plain in
      let b : hops_left claiming hop k (hop node) ≤ k = hops_most claiming hop k (hop node) in
      omega (arith, a, b))
]

-- one node has another next hop, at which the page is claimed: then no more hops are left
module _ (claiming now : ℕ → Bool) (hop next : ℕ → ℕ) (same : (y : ℕ) → now y ≡ claiming y) (x : ℕ)
    (others : (y : ℕ) → y ≢ x → next y ≡ hop y)
    (here : (next x ≡ hop x) ⊎ (claiming (next x) ≡ true)) where
  claimed_none : (k y : ℕ) → claiming y ≡ true → hops_left now next k y ≡ 0
  claimed_none zero y is = refl
  claimed_none (suc k) y is =
      ap (λ b. if b then 0 else suc (hops_left now next k (next y))) (same y ∙ is)

  plain_hops : (k : ℕ)
      → ((y : ℕ) → hops_left now next k y ≤ hops_left claiming hop k y) → (y : ℕ)
      → hops_left now next k (next y) ≤ hops_left claiming hop k (hop y)
  plain_hops k fewer y = elim (cases_eq y x) [
    | inr ne ↦
        subst (λ v. hops_left now next k v ≤ hops_left claiming hop k (hop y)) (sym (others y ne))
        (fewer (hop y))
    | inl is ↦
        subst (λ v. hops_left now next k (next v) ≤ hops_left claiming hop k (hop v)) (sym is)
        (elim here [
          | inl stays ↦
              subst (λ v. hops_left now next k v ≤ hops_left claiming hop k (hop x)) (sym stays)
              (fewer (hop x))
          | inr claims ↦
              (let a : hops_left now next k (next x) ≡ 0 = claimed_none k (next x) claims in
              omega (arith, a))
        ])
  ]

  pub no_more_hops : (k y : ℕ) → hops_left now next k y ≤ hops_left claiming hop k y
  no_more_hops zero y = omega arith
  no_more_hops (suc k) y = elim (cases_Bool (claiming y)) [
    | inl is ↦
        (let a : hops_left now next (suc k) y ≡ 0 = claimed_none (suc k) y is in omega (arith, a))
    | inr plain ↦
        (let a : hops_left now next (suc k) y ≡ suc (hops_left now next k (next y)) =
        ap (λ b. if b then 0 else suc (hops_left now next k (next y))) (same y ∙ plain) in
        let b : hops_left claiming hop (suc k) y ≡ suc (hops_left claiming hop k (hop y)) =
        ap (λ b. if b then 0 else suc (hops_left claiming hop k (hop y))) plain in
        let d : hops_left now next k (next y) ≤ hops_left claiming hop k (hop y) =
        plain_hops k (no_more_hops k) y in
        omega (arith, a, b, d))
  ]

-- where next hops go down they come to an end within so many hops as there are nodes
module _ (n : ℕ) (claiming : ℕ → Bool) (hop height : ℕ → ℕ)
    (down : (y : ℕ) → y < n → claiming y ≡ false → height (hop y) < height y)
    (inside : (y : ℕ) → y < n → hop y < n) where
  abbrev is_lower : ℕ → ℕ → ℕ
  is_lower v z = if ltb (height z) v then 1 else 0

  -- how many nodes are lower
  abbrev lower : ℕ → ℕ
  lower v = sum_below n (is_lower v)

  is : (v z : ℕ) → height z < v → is_lower v z ≡ 1
  is v z lt = ap (λ b. if b then 1 else 0) (lt-ltb (height z) v lt)

  is_no : (v z : ℕ) → v ≤ height z → is_lower v z ≡ 0
  is_no v z le = ap (λ b. if b then 1 else 0) (le-ltb (height z) v le)

  one_at_most : (v z : ℕ) → is_lower v z ≤ 1
  one_at_most v z = elim (cases_Bool (ltb (height z) v)) [
    | inl so ↦ (let a = is v z (ltb-true (height z) v so) in omega (arith, a))
    | inr more ↦
        (let a : is_lower v z ≡ 0 = ap (λ b. if b then 1 else 0) more in omega (arith, a))
  ]

  no_fewer : (v w : ℕ) → v ≤ w → (z : ℕ) → is_lower v z ≤ is_lower w z
  no_fewer v w le z = elim (cases_Bool (ltb (height z) v)) [
    | inl so ↦
        (let lt = ltb-true (height z) v so in
        let a : is_lower w z ≡ 1 = is w z (omega (arith, lt, le)) in
        let b = one_at_most v z in
        omega (arith, a, b))
    | inr more ↦
        (let a : is_lower v z ≡ 0 = ap (λ b. if b then 1 else 0) more in omega (arith, a))
  ]

  fewer : (y : ℕ) → y < n → (v : ℕ) → height y < v → lower (height y) < lower v
  fewer y lt v below =
      sum_less n y (is_lower (height y)) (is_lower v)
      (λ z l. no_fewer (height y) v (omega (arith, below)) z) lt
      (let a = is_no (height y) y (omega arith) in
      let b = is v y below in omega (arith, a, b))

  ones : (k : ℕ) → sum_below k (λ z. 1) ≡ k
  ones zero = refl
  ones (suc k) = (let a = ones k in omega (arith, a))

  not_all : (y : ℕ) → y < n → lower (height y) < n
  not_all y lt =
      let a : lower (height y) < sum_below n (λ z. 1) =
      sum_less n y (is_lower (height y)) (λ z. 1) (λ z l. one_at_most (height y) z) lt
      (let b = is_no (height y) y (omega arith) in omega (arith, b)) in
      let b = ones n in
      omega (arith, a, b)

  -- one hop more that may be taken makes no difference
  steady : (k y : ℕ) → y < n → lower (height y) < k
      → hops_left claiming hop k y ≡ hops_left claiming hop (suc k) y
  steady zero y lt few = absurd (omega (arith, few))
  steady (suc k) y lt few = elim (cases_Bool (claiming y)) [
    | inl here ↦
        ap (λ b. if b then 0 else suc (hops_left claiming hop k (hop y))) here
        ∙ sym (ap (λ b. if b then 0 else suc (hops_left claiming hop (suc k) (hop y))) here)
    | inr plain ↦
        ap (λ b. if b then 0 else suc (hops_left claiming hop k (hop y))) plain
        ∙ ap suc (steady k (hop y) (inside y lt)
        (let a : lower (height (hop y)) < lower (height y) =
        fewer (hop y) (inside y lt) (height y) (down y lt plain) in
        omega (arith, a, few)))
        ∙ sym (ap (λ b. if b then 0 else suc (hops_left claiming hop (suc k) (hop y))) plain)
  ]

  pub one_hop : (y : ℕ) → y < n → claiming y ≡ false
      → hops_left claiming hop n y ≡ suc (hops_left claiming hop n (hop y))
  one_hop y lt plain =
      steady n y lt (not_all y lt)
      ∙ ap (λ b. if b then 0 else suc (hops_left claiming hop n (hop y))) plain
