-- Two numbers descend: the first one is less, or it is no more and the second one is less.
use Rattle.std.proofs.Common.{◌<◌, ◌≤◌, ◌+◌, ◌*◌, ◌⊎◌, ℕ, arith, inl, inr, mul-le-mul_left}

abbrev pub Descends : ℕ → ℕ → ℕ → ℕ → Type 0
Descends a b x y = (x < a) ⊎ ((x ≤ a) × (y < b))

pub descends_then : (a b k m x y : ℕ) → Descends a b k m → Descends k m x y → Descends a b x y
descends_then a b k m x y (inl s) (inl t) = inl (omega arith)
descends_then a b k m x y (inl s) (inr t) = inl (omega arith)
descends_then a b k m x y (inr s) (inl t) = inl (omega arith)
descends_then a b k m x y (inr s) (inr t) = inr (omega arith, omega arith)

-- from no less, and to no more
pub descends_within : (a b k m p q x y : ℕ) → k ≤ a → m ≤ b → Descends k m p q → x ≤ p → y ≤ q
    → Descends a b x y
descends_within a b k m p q x y first second (inl s) third fourth = inl (omega arith)
descends_within a b k m p q x y first second (inr s) third fourth = inr (omega arith, omega arith)

-- Where the second number is no more than so many times the first one, both make one that is less.
pub descends_as_one : (n k a b x y : ℕ) → y ≤ n * x → n * a + 1 ≤ k → Descends a b x y
    → (k * x + y < k * a + b) × (n * x + 1 ≤ k)
descends_as_one n k a b x y most few (inl less) =
    let p : k * (x + 1) ≤ k * a = mul-le-mul_left k (omega arith) in
    let q : n * x ≤ n * a = mul-le-mul_left n (omega arith) in
    (omega arith, omega arith)
descends_as_one n k a b x y most few (inr both) =
    let p : k * x ≤ k * a = mul-le-mul_left k both.0 in
    let q : n * x ≤ n * a = mul-le-mul_left n both.0 in
    (omega arith, omega arith)
