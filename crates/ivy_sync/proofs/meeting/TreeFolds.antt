-- All numbers are put together by a tree.
use Rattle.std.proofs.Common.{◌≡◌, ℕ, zero, suc, ◌+◌, ◌-◌, ◌*◌, ◌<◌, ◌≤◌, inl, inr, List, [], ◌∷◌, length, Some}
use Rattle.std.proofs.Common.{refl, sym, ap, ◌∙◌, arith}
use Rattle.std.specs.Prelude.{slice_get, min}
use Rattle.std.specs.List.{FoldsTo}
use Rattle.std.proofs.lemmas.Bool.{cases_lt}
use Rattle.std.proofs.lemmas.Option.{same_Some}
use Rattle.ivy_sync.specs.meeting.TreeBarriers.{children}
use Rattle.ivy_sync.specs.meeting.TreeReductions.{IsFree, TreeFoldsAreWhole, fold_to}
use Rattle.ivy_sync.proofs.meeting.TreeReductions.{tree_reductions-agree}

module _ (op : ℕ → ℕ → ℕ) (g : ℕ → ℕ) where
  -- so many numbers, from one place on, are put to the first
  pub fold_on : ℕ → ℕ → ℕ → ℕ
  fold_on first from zero = first
  fold_on first from (suc n) = op (fold_on first from n) (g (from + n))

  fold_none : (first from n : ℕ) → n ≡ 0 → fold_on first from n ≡ first
  unfolding fold_on
  fold_none first from zero e = refl
  fold_none first from (suc n) e = absurd (omega (arith, e))

  fold_first : (first from n : ℕ) → fold_on first from (suc n) ≡ fold_on (op first (g from)) (from + 1) n
  unfolding fold_on
  fold_first first from zero =
      ap (λ k. op first (g k)) (let e : from + 0 ≡ from = omega arith in e)
  fold_first first from (suc n) =
      ap (λ x. op x (g (from + suc n))) (fold_first first from n)
      ∙ ap (λ k. op (fold_on (op first (g from)) (from + 1) n) (g k))
      (let e : from + suc n ≡ from + 1 + n = omega arith in e)

  fold_more : (first from m n : ℕ)
      → fold_on (fold_on first from m) (from + m) n ≡ fold_on first from (m + n)
  unfolding fold_on
  fold_more first from m zero =
      ap (fold_on first from) (let e : m ≡ m + 0 = omega arith in e)
  fold_more first from m (suc n) =
      ap (λ x. op x (g (from + m + n))) (fold_more first from m n)
      ∙ ap (λ k. op (fold_on first from (m + n)) (g k))
      (let e : from + m + n ≡ from + (m + n) = omega arith in e)
      ∙ ap (fold_on first from) (let e : suc (m + n) ≡ m + suc n = omega arith in e)

  module _ (free : IsFree op) where
    -- what is put to the first can be put to all
    fold_put : (x first from n : ℕ) → op x (fold_on first from n) ≡ fold_on (op x first) from n
    unfolding fold_on
    fold_put x first from zero = refl
    fold_put x first from (suc n) =
        sym (free.grouped x (fold_on first from n) (g (from + n)))
        ∙ ap (λ y. op y (g (from + n))) (fold_put x first from n)

    -- and two such rows come to the same in either order
    fold_turned : (first from m to n : ℕ)
        → fold_on (fold_on first from m) to n ≡ fold_on (fold_on first to n) from m
    unfolding fold_on
    fold_turned first from m to zero = refl
    fold_turned first from m to (suc n) =
        ap (λ x. op x (g (to + n))) (fold_turned first from m to n)
        ∙ free.turned (fold_on (fold_on first to n) from m) (g (to + n))
        ∙ fold_put (g (to + n)) (fold_on first to n) from m
        ∙ ap (λ x. fold_on x from m) (free.turned (g (to + n)) (fold_on first to n))

-- what is found of a fold
folds_on : (op : ℕ → ℕ → ℕ) (g : ℕ → ℕ) (first last from : ℕ) (values : List ℕ)
    → ((k : ℕ) → k < length values → slice_get values k ≡ Some (g (from + k)))
    → FoldsTo (λ x y z. z ≡ op x y) first values last
    → last ≡ fold_on op g first from (length values)
unfolding fold_on
folds_on op g first last from [] are folds = sym folds
folds_on op g first last from (v ∷ vs) are folds =
    let is : v ≡ g from =
    same_Some v (g from) (are 0 (omega arith)
    ∙ ap (λ k. Some (g k)) (let e : from + 0 ≡ from = omega arith in e)) in
    folds_on op g folds.0 last (from + 1) vs
    (λ k l. are (suc k) (omega (arith, l))
    ∙ ap (λ n. Some (g n)) (let e : from + suc k ≡ from + 1 + k = omega arith in e))
    folds.2
    ∙ ap (λ x. fold_on op g x (from + 1) (length vs)) (folds.1 ∙ ap (op first) is)
    ∙ sym (fold_first op g first from (length vs))

module _ (op : ℕ → ℕ → ℕ) (value part : ℕ → ℕ) (nodes : ℕ) (free : IsFree op) (some : 0 < nodes)
    (parts : (i : ℕ) → i < nodes
    → part i ≡ fold_on op part (value i) (4 * i + 1) (children nodes i)) where
  -- the nodes from the k-th on whose parents are among the first k
  abbrev below : ℕ → ℕ
  below k = min nodes (4 * k + 1) - k

  -- one number more is put to those before it, and the parts of its children come behind the others
  step : (k first : ℕ) → 1 ≤ k → k < nodes
      → fold_on op part first k (below k) ≡ fold_on op part (op first (value k)) (k + 1) (below (k + 1))
  step k first from l =
      let w : ℕ = below k - 1 in
      let ch : ℕ = children nodes k in
      let here : ℕ = op first (value k) in
      let is : below k ≡ suc w = omega (arith, l, from) in
      ap (fold_on op part first k) is ∙ fold_first op part first k w
      ∙ ap (λ x. fold_on op part (op first x) (k + 1) w) (parts k l)
      ∙ ap (λ x. fold_on op part x (k + 1) w) (fold_put op part free first (value k) (4 * k + 1) ch)
      ∙ fold_turned op part free here (4 * k + 1) ch (k + 1) w
      ∙ behind
    where
      behind : fold_on op part (fold_on op part (op first (value k)) (k + 1) (below k - 1)) (4 * k + 1)
          (children nodes k)
          ≡ fold_on op part (op first (value k)) (k + 1) (below (k + 1))
      behind =
          elim (cases_lt (4 * k + 1) nodes) [
            | inl less ↦
                ap (λ n. fold_on op part (fold_on op part (op first (value k)) (k + 1) (below k - 1)) n
                (children nodes k))
                (let e : 4 * k + 1 ≡ k + 1 + (below k - 1) = omega (arith, less, from) in e)
                ∙ fold_more op part (op first (value k)) (k + 1) (below k - 1) (children nodes k)
                ∙ ap (fold_on op part (op first (value k)) (k + 1))
                (let e : below k - 1 + children nodes k ≡ below (k + 1) =
                omega (arith, less, from) in e)
            | inr past ↦
                fold_none op part (fold_on op part (op first (value k)) (k + 1) (below k - 1)) (4 * k + 1)
                (children nodes k) (omega (arith, past))
                ∙ ap (fold_on op part (op first (value k)) (k + 1))
                (let e : below k - 1 ≡ below (k + 1) = omega (arith, past, l, from) in e)
          ]

  -- after the first k + 1 numbers
  so_far : (k : ℕ) → k + 1 ≤ nodes
      → part 0 ≡ fold_on op part (fold_to op value k) (k + 1) (below (k + 1))
  so_far zero l =
      parts 0 some
      ∙ ap (fold_on op part (value 0) 1)
      (let e : children nodes 0 ≡ below 1 = omega (arith, some) in e)
  so_far (suc k) l =
      let less : k + 1 < nodes = omega (arith, l) in
      let next : k + 1 ≡ suc k = omega arith in
      so_far k (omega (arith, l)) ∙ step (k + 1) (fold_to op value k) (omega arith) less
      ∙ ap (λ n. fold_on op part (op (fold_to op value k) (value n)) (n + 1) (below (n + 1))) next

  pub whole_of : part 0 ≡ fold_to op value (nodes - 1)
  whole_of =
      let all : nodes - 1 + 1 ≡ nodes = omega (arith, some) in
      so_far (nodes - 1) (omega (arith, some))
      ∙ fold_none op part (fold_to op value (nodes - 1)) (nodes - 1 + 1) (below (nodes - 1 + 1))
      (omega (arith, all))

pub tree_folds-are_whole : TreeFoldsAreWhole
tree_folds-are_whole c old new order at phase op value part all values free run place reduces folds i
    l =
    let agree =
    tree_reductions-agree c old new order at phase part all values run place reduces in
    (agree i l).0
    ∙ whole_of op value part c.nodes free (omega (arith, l))
    (λ n m.
    let long = (reduces n m).rises.long in
    folds_on op part (value n) (part n) (4 * n + 1) (values n)
    (λ k few. (agree n m).1 k (omega (arith, few, long))) (folds n m)
    ∙ ap (fold_on op part (value n) (4 * n + 1)) long)
